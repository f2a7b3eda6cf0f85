-- Elements of a long list, found in two short steps: by the block, and by the place in it.
use Rattle.std.proofs.Common.{◌≡◌, ℕ, zero, suc, ◌+◌, ◌*◌, ◌/◌, ◌%◌, ◌<◌, List, [], ◌∷◌, get_or, drop, sym, ap, ◌∙◌, arith, suc-mul, zero-mul}
use Rattle.std.proofs.lemmas.List.{get_or-drop, drop-drop}
use Rattle.std.proofs.lemmas.Nat.{div-add-mod'}

-- what is left of a list before each of so many blocks
abbrev pub blocks : {X : Type 0} → ℕ → ℕ → List X → List (List X)
blocks zero size xs = []
blocks (suc n) size xs = xs ∷ blocks n size (drop size xs)

abbrev pub pick : {X : Type 0} → ℕ → List (List X) → ℕ → X → X
pick size bs i d = get_or (get_or bs (i / size) []) (i % size) d

block_at : {X : Type 0} (n size : ℕ) (xs : List X) (k : ℕ) → k < n → get_or (blocks n size xs) k [] ≡ drop (k * size) xs
block_at zero size xs k l = absurd (omega arith)
block_at (suc n) size xs zero l = ap (λ m. drop m xs) (sym (zero-mul size))
block_at (suc n) size xs (suc k) l =
    let sum : size + k * size ≡ suc k * size = omega (arith, suc-mul k size) in
    block_at n size (drop size xs) k (omega arith) ∙ drop-drop (k * size) size xs ∙ ap (λ m. drop m xs) sum

pub picked : {X : Type 0} (n size : ℕ) (xs : List X) (i : ℕ) (d : X) → i / size < n → pick size (blocks n size xs) i d ≡ get_or xs i d
picked n size xs i d l =
    ap (λ ys. get_or ys (i % size) d) (block_at n size xs (i / size) l) ∙ get_or-drop (i / size * size) xs (i % size) d ∙ ap (λ j. get_or xs j d) (div-add-mod' i size)
