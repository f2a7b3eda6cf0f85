-- Two lists step by step, and texts that compare equal.
use Rattle.std.proofs.Common.{◌≡◌, ℕ, zero, suc, ◌+◌, ◌<◌, ◌≤◌, min, length, arith, inl, inr, Bool, true, false, not, List, [], ◌∷◌, ◌++◌, take, slice_get, bytes_eq, Some, None, sym, ◌∙◌, refl, get_or}
use Rattle.std.proofs.lemmas.List.{take_more}
use Rattle.std.proofs.lemmas.Option.{slice_get_within, slice_get_past, slice_get-get_or, get_or_from_slice_get}
use Rattle.std.proofs.lemmas.Bool.{cases_lt}
use Rattle.std.proofs.lemmas.Slice.Eq.{bytes_eq-Decides}

-- prefixes that are the same stay the same with one more element that both have
pub take_more_alike : {X : Type 0} (xs ys : List X) (i : ℕ) (x : X) → take i xs ≡ take i ys → slice_get xs i ≡ Some x → slice_get ys i ≡ Some x → take (i + 1) xs ≡ take (i + 1) ys
take_more_alike xs ys i x same at there =
    rw (take_more xs i x (slice_get_within xs i x at), take_more ys i x (slice_get_within ys i x there), get_or_from_slice_get xs i x x at, get_or_from_slice_get ys i x x there, same) refl

-- texts that a test finds equal are equal
pub same_texts : (s t : List ℕ) → bytes_eq s t ≡ true → s ≡ t
same_texts s t h = (bytes_eq-Decides s t).0 h

was_true : (b r : Bool) → r ≡ not b → r ≡ false → b ≡ true
was_true true r e h = refl
was_true false r e h = absurd (cc)

-- texts that a test doesn't find different are equal
pub same_from_ne : (s t : List ℕ) (r : Bool) → r ≡ not (bytes_eq s t) → r ≡ false → s ≡ t
same_from_ne s t r e h = same_texts s t (was_true (bytes_eq s t) r e h)

-- an element of a prefix stays where it is
pub slice_get-append : {X : Type 0} (xs ys : List X) (i : ℕ) → i < length xs → slice_get (xs ++ ys) i ≡ slice_get xs i
slice_get-append [] ys i h = absurd (omega arith)
slice_get-append (x ∷ xs) ys zero h = refl
slice_get-append (x ∷ xs) ys (suc i) h = slice_get-append xs ys i (omega arith)

-- the element that is appended to a list
pub slice_get_at : {X : Type 0} (xs : List X) (x : X) → slice_get (xs ++ x ∷ []) (length xs) ≡ Some x
slice_get_at [] x = refl
slice_get_at (y ∷ xs) x = slice_get_at xs x

ends_first : {X : Type 0} (xs ys : List X) (n : ℕ) → length xs ≤ n → n < length ys → slice_get xs n ≡ slice_get ys n → ⊥
ends_first xs [] n past within e = absurd (omega arith)
ends_first xs (y ∷ ys) n past within e =
    let none = slice_get_past xs n past in
    let some = slice_get-get_or (y ∷ ys) n y within in
    let both : None ≡ Some (get_or (y ∷ ys) n y) = sym none ∙ e ∙ some in
    cc

-- where one list ends and the other doesn't, they differ
pub differ_at_end : {X : Type 0} (xs ys : List X) (n : ℕ) → n ≡ min (length xs) (length ys) → (length xs ≡ length ys → ⊥) → slice_get xs n ≡ slice_get ys n → ⊥
differ_at_end xs ys n at other e = elim (cases_lt (length xs) (length ys)) [
  | inl h ↦ ends_first xs ys n (omega arith) (omega arith) e
  | inr h ↦ ends_first ys xs n (omega arith) (omega arith) (sym e)
]
