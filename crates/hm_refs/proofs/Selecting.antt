-- Numbers in the order of their code points: what a search gives, and that sorting bit by bit selects the same.
use Rattle.std.proofs.Common.{◌≡◌, ℕ, zero, suc, ◌-◌, ◌*◌, ◌/◌, ◌%◌, ◌<◌, ◌≤◌, Bool, true, false, cond, not, ◌&&◌, ◌==◌, nat_lt, nat_le, List, [], ◌∷◌, ◌++◌, filter, length, get_or, take, drop, refl, ap, ◌∙◌, subst, arith, append-nil}
use Rattle.std.specs.List.Sorted.{IsNonDecreasing, IsPartitionPoint, IsPartitionedBy}
use Rattle.std.proofs.lemmas.List.Sorted.{IsPartitionedBy-leb, IsPartitionedBy-ltb}
use Rattle.hm_refs.specs.Names.{Entry}
use Rattle.hm_refs.specs.Tables.{places_from, places_for}
use Rattle.hm_refs.specs.Firsts.{selected, IsInOrder}
use Rattle.hm_refs.proofs.Bools.{and_left, and_right, eq_of, le_of}

-- ---- a search

abbrev pub is_under : ℕ → ℕ → Bool
is_under c p = nat_lt p c

abbrev pub is_up_to : ℕ → ℕ → Bool
is_up_to c p = nat_le p c

-- the part of the numbers whose code point is c
pub record Part (c : ℕ) (ps is : List ℕ) (from to : ℕ) : Type 0 where
  pub order : from ≤ to
  pub part : take (to - from) (drop from is) ≡ selected c ps is

pub part : (c : ℕ) (ps is : List ℕ) (from to : ℕ) → length is ≡ length ps → from ≤ length ps → to ≤ length ps → IsPartitionPoint (λ p. is_under c p ≡ true) (λ p. is_under c p ≡ false) ps from → IsPartitionPoint (λ p. is_up_to c p ≡ true) (λ p. is_up_to c p ≡ false) ps to → Part c ps is from to
part c [] [] zero zero e l m f g = record { order = omega arith; part = refl }
part c [] [] (suc from) to e l m f g = absurd (omega arith)
part c [] [] zero (suc to) e l m f g = absurd (omega arith)
part c [] (i ∷ is) from to e l m f g = absurd (omega arith)
part c (p ∷ ps) [] from to e l m f g = absurd (omega arith)
part c (p ∷ ps) (i ∷ is) (suc from) zero e l m f g =
    let under : nat_lt p c ≡ true = f.0 0 0 (omega arith) (omega arith) in
    let over : nat_le p c ≡ false = g.1 0 0 (omega arith) (omega arith) in
    absurd (none under over)
  where
    none : nat_lt p c ≡ true → nat_le p c ≡ false → ⊥
    none h k = grind arith
part c (p ∷ ps) (i ∷ is) (suc from) (suc to) e l m f g =
    let r = part c ps is from to (omega arith) (omega arith) (omega arith) (λ k d a b. f.0 (suc k) d (omega arith) (omega arith), λ k d a b. f.1 (suc k) d (omega arith) (omega arith)) (λ k d a b. g.0 (suc k) d (omega arith) (omega arith), λ k d a b. g.1 (suc k) d (omega arith) (omega arith)) in
    let n : suc to - suc from ≡ to - from = omega arith in
    let other : (p == c) ≡ false = other_point (f.0 0 0 (omega arith) (omega arith)) in
    record { order = omega (arith, r.order); part = rw (n, other) r.part }
  where
    other_point : nat_lt p c ≡ true → (p == c) ≡ false
    other_point h = grind arith
part c (p ∷ ps) (i ∷ is) zero (suc to) e l m f g =
    let r = part c ps is zero to (omega arith) (omega arith) (omega arith) (λ k d a b. absurd (omega arith), λ k d a b. f.1 (suc k) d (omega arith) (omega arith)) (λ k d a b. g.0 (suc k) d (omega arith) (omega arith), λ k d a b. g.1 (suc k) d (omega arith) (omega arith)) in
    let same : (p == c) ≡ true = same_point (f.1 0 0 (omega arith) (omega arith)) (g.0 0 0 (omega arith) (omega arith)) in
    let n : suc to - zero ≡ suc (to - zero) = omega arith in
    record { order = omega arith; part = rw (n, same) (ap (λ js. i ∷ js) r.part) }
  where
    same_point : nat_lt p c ≡ false → nat_le p c ≡ true → (p == c) ≡ true
    same_point h k = grind arith
part c (p ∷ ps) (i ∷ is) zero zero e l m f g =
    let r = part c ps is zero zero (omega arith) (omega arith) (omega arith) (λ k d a b. absurd (omega arith), λ k d a b. f.1 (suc k) d (omega arith) (omega arith)) (λ k d a b. absurd (omega arith), λ k d a b. g.1 (suc k) d (omega arith) (omega arith)) in
    let other : (p == c) ≡ false = other_point (g.1 0 0 (omega arith) (omega arith)) in
    record { order = omega arith; part = rw other r.part }
  where
    other_point : nat_le p c ≡ false → (p == c) ≡ false
    other_point h = grind arith

pub parted_under : (ps : List ℕ) (c : ℕ) → IsNonDecreasing ps → IsPartitionedBy (is_under c) ps
parted_under ps c h = IsPartitionedBy-ltb (λ p. p) ps c h

pub parted_up_to : (ps : List ℕ) (c : ℕ) → IsNonDecreasing ps → IsPartitionedBy (is_up_to c) ps
parted_up_to ps c h = IsPartitionedBy-leb (λ p. p) ps c h

-- ---- a test that numbers don't fall

abbrev pub climbs_from : ℕ → List ℕ → Bool
climbs_from p [] = true
climbs_from p (q ∷ qs) = nat_le p q && climbs_from q qs

above : (p : ℕ) (qs : List ℕ) → climbs_from p qs ≡ true → (j d : ℕ) → j < length qs → p ≤ get_or qs j d
above p [] h j d l = absurd (omega arith)
above p (q ∷ qs) h zero d l = le_of p q (and_left (nat_le p q) _ h)
above p (q ∷ qs) h (suc j) d l = let a = above q qs (and_right (nat_le p q) _ h) j d (omega arith) in omega (arith, a, le_of p q (and_left (nat_le p q) _ h))

climbing : (p : ℕ) (qs : List ℕ) → climbs_from p qs ≡ true → IsNonDecreasing qs
climbing p [] h i j d l m = absurd (omega arith)
climbing p (q ∷ qs) h zero zero d l m = omega arith
climbing p (q ∷ qs) h zero (suc j) d l m = above q qs (and_right (nat_le p q) _ h) j d (omega arith)
climbing p (q ∷ qs) h (suc i) zero d l m = absurd (omega arith)
climbing p (q ∷ qs) h (suc i) (suc j) d l m = climbing q qs (and_right (nat_le p q) _ h) i j d (omega arith) (omega arith)

-- ---- pairs of a code point and a number

abbrev Pair : Type 0
Pair = ℕ × ℕ

abbrev with_pair : ℕ → List ℕ → List Pair → List Pair
with_pair i [] xs = xs
with_pair i (p ∷ ps) xs = (p, i) ∷ xs

-- the first code point of each name, with the name's number
abbrev pub pairs_from : ℕ → List Entry → List Pair
pairs_from i [] = []
pairs_from i (e ∷ t) = with_pair i e.points (pairs_from (suc i) t)

abbrev pub pairs_of : List ℕ → List ℕ → List Pair
pairs_of [] is = []
pairs_of (p ∷ ps) [] = []
pairs_of (p ∷ ps) (i ∷ is) = (p, i) ∷ pairs_of ps is

abbrev select : ℕ → List Pair → List ℕ
select c [] = []
select c (x ∷ xs) = cond (x.0 == c) (x.1 ∷ select c xs) (select c xs)

select_places : (c i : ℕ) (t : List Entry) → select c (pairs_from i t) ≡ places_from c i t
select_places c i [] = refl
select_places c i (e ∷ t) = by_points e.points (select_places c (suc i) t)
  where
    by_points : (ps : List ℕ) → select c (pairs_from (suc i) t) ≡ places_from c (suc i) t → select c (with_pair i ps (pairs_from (suc i) t)) ≡ places_from c i (record { name = e.name; points = ps } ∷ t)
    by_points [] h = h
    by_points (p ∷ ps) h = ap (λ js. cond (p == c) (i ∷ js) js) h

select_pairs : (c : ℕ) (ps is : List ℕ) → selected c ps is ≡ select c (pairs_of ps is)
select_pairs c [] is = refl
select_pairs c (p ∷ ps) [] = refl
select_pairs c (p ∷ ps) (i ∷ is) = ap (λ js. cond (p == c) (i ∷ js) js) (select_pairs c ps is)

select_append : (c : ℕ) (xs ys : List Pair) → select c (xs ++ ys) ≡ select c xs ++ select c ys
select_append c [] ys = refl
select_append c (x ∷ xs) ys = rw (select_append c xs ys) (by_test (x.0 == c))
  where
    by_test : (b : Bool) → cond b (x.1 ∷ (select c xs ++ select c ys)) (select c xs ++ select c ys) ≡ cond b (x.1 ∷ select c xs) (select c xs) ++ select c ys
    by_test true = refl
    by_test false = refl

-- what passes a test of its code point
select_filter : (c : ℕ) (r : ℕ → Bool) (xs : List Pair) → select c (filter (λ (x : Pair). r x.0) xs) ≡ cond (r c) (select c xs) []
select_filter c r [] = by_test (r c)
  where
    by_test : (b : Bool) → ◌≡◌ {A = List ℕ} [] (cond b [] [])
    by_test true = refl
    by_test false = refl
select_filter c r (x ∷ xs) = by_tests (r x.0) (x.0 == c) refl refl (select_filter c r xs)
  where
    by_tests : (a b : Bool) → r x.0 ≡ a → (x.0 == c) ≡ b → select c (filter (λ (y : Pair). r y.0) xs) ≡ cond (r c) (select c xs) []
        → select c (cond a (x ∷ filter (λ (y : Pair). r y.0) xs) (filter (λ (y : Pair). r y.0) xs)) ≡ cond (r c) (cond b (x.1 ∷ select c xs) (select c xs)) []
    by_tests true true e f h = let i : r c ≡ true = subst (λ p. r p ≡ true) (eq_of x.0 c f) e in rw (f, h, i) refl
    by_tests true false e f h = rw f h
    by_tests false true e f h = let i : r c ≡ false = subst (λ p. r p ≡ false) (eq_of x.0 c f) e in h ∙ rw i refl
    by_tests false false e f h = h

-- ---- sorting by a bit of the code points, and by one bit after another

abbrev is_even : ℕ → ℕ → Bool
is_even unit p = (p / unit) % 2 == 0

abbrev pub by_bit : ℕ → List Pair → List Pair
by_bit unit xs = filter (λ (x : Pair). is_even unit x.0) xs ++ filter (λ (x : Pair). not (is_even unit x.0)) xs

-- by so many bits, from the one that is worth `unit` on
abbrev pub by_bits : ℕ → ℕ → List Pair → List Pair
by_bits zero unit xs = xs
by_bits (suc n) unit xs = by_bits n (2 * unit) (by_bit unit xs)

select_bit : (c unit : ℕ) (xs : List Pair) → select c (by_bit unit xs) ≡ select c xs
select_bit c unit xs =
    select_append c (filter (λ (x : Pair). is_even unit x.0) xs) (filter (λ (x : Pair). not (is_even unit x.0)) xs)
    ∙ rw (select_filter c (is_even unit) xs, select_filter c (λ p. not (is_even unit p)) xs) (by_test (is_even unit c))
  where
    by_test : (b : Bool) → cond b (select c xs) [] ++ cond (not b) (select c xs) [] ≡ select c xs
    by_test true = append-nil (select c xs)
    by_test false = refl

select_bits : (c n unit : ℕ) (xs : List Pair) → select c (by_bits n unit xs) ≡ select c xs
select_bits c zero unit xs = refl
select_bits c (suc n) unit xs = select_bits c n (2 * unit) (by_bit unit xs) ∙ select_bit c unit xs

-- ---- names in order

pub in_order : (t : List Entry) (points names : List ℕ) (n : ℕ) → climbs_from 0 points ≡ true → length names ≡ length points → pairs_of points names ≡ by_bits n 1 (pairs_from 0 t) → IsInOrder t points names
unfolding places_for
in_order t points names n h l e = record {
  ascending = climbing 0 points h;
  as_long = l;
  all = λ c. select_pairs c points names ∙ ap (select c) e ∙ select_bits c n 1 (pairs_from 0 t) ∙ select_places c 0 t;
}
