-- Texts whose bytes all pass a test, and the prefix of a text that does.
use Rattle.std.proofs.Common.{◌≡◌, ℕ, Bool, true, false, ◌&&◌, List, [], ◌∷◌, ◌++◌, cond, ap, refl}
use Rattle.hm_base.specs.Bytes.{all_pass, front, head_is, rest_after}

-- both tests hold where both together do
pub both_true : (a b : Bool) → a ≡ true → b ≡ true → (a && b) ≡ true
both_true a b h k = rw (h, k) refl

pub first_true : (a b : Bool) → (a && b) ≡ true → a ≡ true
first_true true b h = refl
first_true false b h = h

pub second_true : (a b : Bool) → (a && b) ≡ true → b ≡ true
second_true true b h = h
second_true false b h = cc

pub all_pass-append : (p : ℕ → Bool) (s t : List ℕ) → all_pass p s ≡ true → all_pass p t ≡ true → all_pass p (s ++ t) ≡ true
all_pass-append p [] t h k = k
all_pass-append p (c ∷ s) t h k = both_true (p c) (all_pass p (s ++ t)) (first_true (p c) (all_pass p s) h) (all_pass-append p s t (second_true (p c) (all_pass p s) h) k)

-- of two texts together each passes
pub all_pass_first : (p : ℕ → Bool) (s t : List ℕ) → all_pass p (s ++ t) ≡ true → all_pass p s ≡ true
all_pass_first p [] t h = refl
all_pass_first p (c ∷ s) t h = both_true (p c) (all_pass p s) (first_true (p c) (all_pass p (s ++ t)) h) (all_pass_first p s t (second_true (p c) (all_pass p (s ++ t)) h))

pub all_pass_second : (p : ℕ → Bool) (s t : List ℕ) → all_pass p (s ++ t) ≡ true → all_pass p t ≡ true
all_pass_second p [] t h = h
all_pass_second p (c ∷ s) t h = all_pass_second p s t (second_true (p c) (all_pass p (s ++ t)) h)

-- ---- The longest prefix that passes, and what follows it

pub front_and_rest : (p : ℕ → Bool) (s : List ℕ) → s ≡ front p s ++ rest_after p s
front_and_rest p [] = refl
front_and_rest p (c ∷ s) = elim (p c) as (λ b. c ∷ s ≡ cond b (c ∷ front p s) [] ++ cond b (rest_after p s) (c ∷ s)) [ true ↦ ap (λ r. c ∷ r) (front_and_rest p s) | false ↦ refl ]

pub front_passes : (p : ℕ → Bool) (s : List ℕ) → all_pass p (front p s) ≡ true
front_passes p [] = refl
front_passes p (c ∷ s) = elim (p c) as (λ b. p c ≡ b → all_pass p (cond b (c ∷ front p s) []) ≡ true)
    [ true ↦ λ e. rw (e, front_passes p s) refl | false ↦ λ e. refl ] refl

pub rest_stops : (p : ℕ → Bool) (s : List ℕ) → head_is p (rest_after p s) ≡ false
rest_stops p [] = refl
rest_stops p (c ∷ s) = elim (p c) as (λ b. p c ≡ b → head_is p (cond b (rest_after p s) (c ∷ s)) ≡ false) [ true ↦ λ e. rest_stops p s | false ↦ λ e. e ] refl
