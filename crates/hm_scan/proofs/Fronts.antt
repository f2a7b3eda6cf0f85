-- Prefixes of texts, and what follows them.
use Rattle.std.proofs.Common.{◌≡◌, ℕ, ◌⊎◌, Bool, true, false, cond, List, [], ◌∷◌, ◌++◌, refl, ap, inl, inr}
use Rattle.std.proofs.lemmas.Bool.{and_parts}
use Rattle.hm_base.specs.Bytes.{front, rest_after, all_pass, head_is}

-- one test, taken on both sides
pub cond_both : {A B : Type 0} (R : A → B → Type 0) (b : Bool) {x y : A} {u v : B} → R x u → R y v → R (cond b x y) (cond b u v)
cond_both R true p q = p
cond_both R false p q = q

-- a list is empty or has a first element
pub cases_list : (s : List ℕ) → (s ≡ []) ⊎ ((d : ℕ) × (ds : List ℕ) × (s ≡ d ∷ ds))
cases_list [] = inl refl
cases_list (d ∷ ds) = inr (d, ds, refl)

-- a prefix that ends inside a text is the same in a longer text
pub front_append : (p : ℕ → Bool) (s y : List ℕ) (d : ℕ) (ds : List ℕ) → rest_after p s ≡ d ∷ ds → front p (s ++ y) ≡ front p s
front_append p [] y d ds e = cc
front_append p (c ∷ s) y d ds e =
    elim (p c) as (λ b. cond b (rest_after p s) (c ∷ s) ≡ d ∷ ds → cond b (c ∷ front p (s ++ y)) [] ≡ cond b (c ∷ front p s) [])
    [ true ↦ λ h. ap (λ r. c ∷ r) (front_append p s y d ds h) | false ↦ λ h. refl ] e

pub after_append : (p : ℕ → Bool) (s y : List ℕ) (d : ℕ) (ds : List ℕ) → rest_after p s ≡ d ∷ ds → rest_after p (s ++ y) ≡ rest_after p s ++ y
after_append p [] y d ds e = cc
after_append p (c ∷ s) y d ds e =
    elim (p c) as (λ b. cond b (rest_after p s) (c ∷ s) ≡ d ∷ ds → cond b (rest_after p (s ++ y)) (c ∷ (s ++ y)) ≡ cond b (rest_after p s) (c ∷ s) ++ y)
    [ true ↦ λ h. after_append p s y d ds h | false ↦ λ h. refl ] e

-- a prefix that passes, and a rest that doesn't begin so
pub front_all : (p : ℕ → Bool) (xs s : List ℕ) → all_pass p xs ≡ true → head_is p s ≡ false → front p (xs ++ s) ≡ xs
front_all p [] [] all stop = refl
front_all p [] (c ∷ s) all stop = rw stop refl
front_all p (x ∷ xs) s all stop = let both = and_parts (p x) (all_pass p xs) all in rw (both.0, front_all p xs s both.1 stop) refl

pub after_all : (p : ℕ → Bool) (xs s : List ℕ) → all_pass p xs ≡ true → head_is p s ≡ false → rest_after p (xs ++ s) ≡ s
after_all p [] [] all stop = refl
after_all p [] (c ∷ s) all stop = rw stop refl
after_all p (x ∷ xs) s all stop = let both = and_parts (p x) (all_pass p xs) all in rw (both.0, after_all p xs s both.1 stop) refl
