-- Places in lists of names, said of variables, so that nothing is computed.
use Rattle.std.proofs.Common.{◌≡◌, ℕ, zero, suc, ◌+◌, ◌<◌, length, get_or, nat_lt, Bool, true, false, cond, ◌||◌, ◌&&◌, ◌==◌, List, [], ◌∷◌, bytes_eq, refl, sym, ap, ◌∙◌, arith}
use Rattle.std.specs.List.{list_all}
use Rattle.std.proofs.lemmas.Bool.{and_parts, eqb-true}
use borrow.Author.Tests.{ltb-true}
use Rattle.hm_elements.specs.Names.{is_among}
use Rattle.hm_elements.specs.Numbers.{place}
use Rattle.hm_elements.proofs.TableTools.{same_bytes, eq_self}

-- a bound that all entries keep
pub all_below : (b : ℕ) (xs : List ℕ) (k : ℕ) → 0 < b → list_all (λ x. nat_lt x b) xs ≡ true → get_or xs k 0 < b
all_below b [] k h all = h
all_below b (x ∷ xs) zero h all = ltb-true x b (and_parts (nat_lt x b) (list_all (λ y. nat_lt y b) xs) all).0
all_below b (x ∷ xs) (suc k) h all = all_below b xs k h (and_parts (nat_lt x b) (list_all (λ y. nat_lt y b) xs) all).1

-- each name has its place, counted from i, at its hash
abbrev pub are_placed : (List ℕ → ℕ) → ℕ → List (List ℕ) → Bool
are_placed at i [] = true
are_placed at i (m ∷ ms) = (at m == i) && are_placed at (i + 1) ms

pub placed_at : (at : List ℕ → ℕ) (n : List ℕ) (i : ℕ) (ms : List (List ℕ)) → are_placed at i ms ≡ true → is_among n ms ≡ true → at n ≡ i + place n ms
unfolding is_among
placed_at at n i [] all among = cc
placed_at at n i (m ∷ ms) all among =
    let both : (at m == i ≡ true) × (are_placed at (i + 1) ms ≡ true) = and_parts (at m == i) (are_placed at (i + 1) ms) all in
    by (bytes_eq m n) refl among (eqb-true (at m) i both.0) (placed_at at n (i + 1) ms both.1)
  where
    by : (b : Bool) → bytes_eq m n ≡ b → b || is_among n ms ≡ true → at m ≡ i → (is_among n ms ≡ true → at n ≡ i + 1 + place n ms) → at n ≡ i + cond b 0 (place n ms + 1)
    by true e a here there = let is : at n ≡ at m = ap at (sym (same_bytes m n e)) in let k : i + 0 ≡ i = omega arith in rw k (is ∙ here)
    by false e a here there = let is : at n ≡ i + 1 + place n ms = there a in omega arith

-- the name at the place of a name is that name
pub at_place : (n : List ℕ) (ms : List (List ℕ)) → is_among n ms ≡ true → get_or ms (place n ms) [] ≡ n
unfolding is_among
at_place n [] among = cc
at_place n (m ∷ ms) among = by (bytes_eq m n) refl among (at_place n ms)
  where
    by : (b : Bool) → bytes_eq m n ≡ b → b || is_among n ms ≡ true → (is_among n ms ≡ true → get_or ms (place n ms) [] ≡ n) → get_or (m ∷ ms) (cond b 0 (place n ms + 1)) [] ≡ n
    by true e a there = same_bytes m n e
    by false e a there = let k : place n ms + 1 ≡ suc (place n ms) = omega arith in rw k (there a)

-- the name at a place is among them
pub among_at : (n : List ℕ) (ms : List (List ℕ)) (i : ℕ) → i < length ms → get_or ms i [] ≡ n → is_among n ms ≡ true
unfolding is_among
among_at n [] i h e = absurd (omega arith)
among_at n (m ∷ ms) zero h e = rw (sym e, eq_self m) refl
among_at n (m ∷ ms) (suc i) h e = by (bytes_eq m n) (among_at n ms i (omega arith) e)
  where
    by : (b : Bool) → is_among n ms ≡ true → b || is_among n ms ≡ true
    by true a = refl
    by false a = a
