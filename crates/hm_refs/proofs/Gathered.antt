-- Names in byte order that pass all tests are a table.
use Rattle.std.proofs.Common.{◌≡◌, ℕ, zero, suc, ◌+◌, ◌<◌, ◌≤◌, ◌⊎◌, inl, inr, Bool, true, false, cond, not, ◌&&◌, ◌||◌, ◌==◌, nat_lt, List, [], ◌∷◌, ◌++◌, length, get_or, Option, Some, None, option_map, Ok, Err, Less, count_by, refl, ap, ◌∙◌, subst, arith}
use Rattle.std.proofs.lemmas.Bool.{cases_lt}
use Rattle.std.proofs.lemmas.Cmp.{nat_list_cmp_total, tied_itself}
use Rattle.std.proofs.lemmas.Slice.Eq.{bytes_eq-Decides}
use Rattle.std.specs.Ordering.{nat_cmp}
use Rattle.std.specs.Cmp.Lexicographic.{slice_cmp}
use Rattle.std.specs.List.{AllByRecursion, list_all}
use Rattle.std.specs.List.Sorted.{IsStrictlySortedBy}
use Rattle.hm_base.specs.Bytes.{head_is}
use Rattle.hm_refs.specs.declared.limits.TheConstants.{ALIKE_LIMIT, LENGTH_LIMIT, NAMES_LIMIT, OPEN_LIMIT}
use Rattle.hm_refs.specs.Names.{Entry, points_of, is_closed, is_good, is_good_name}
use Rattle.hm_refs.specs.Tables.{IsIn, first, later, is_for, is_open_for, are_points, names_in, entry_at, IsTable, IsGathered}
use Rattle.hm_refs.specs.Json.{are_same, is_lone, first_lone, is_crowded, if_crowded, lesser, least_crowded, unless, checked}
use Rattle.hm_refs.specs.Nodes.{AreApart, IsShort, AreNames}
use Rattle.hm_refs.specs.declared.fault.TableFault.TheVariants.{TooMany, TooManyFor, Lone}
use Rattle.hm_refs.proofs.Bools.{and_left, and_right, eq_of, le_of}
use Rattle.hm_refs.proofs.Places.{same_bytes, other_bytes}
use Rattle.hm_refs.proofs.Whole.{points_place, own_place}
use Rattle.hm_refs.proofs.FirstsLaws.{count_cons}

all_at : (P : List ℕ → Type 0) (xs : List (List ℕ)) (i : ℕ) → i < length xs → AllByRecursion P xs → P (get_or xs i [])
all_at P [] i l h = absurd (omega arith)
all_at P (x ∷ xs) zero l h = h.0
all_at P (x ∷ xs) (suc i) l h = all_at P xs i (omega arith) h.1

less_differs : (x y : List ℕ) → slice_cmp nat_cmp x y ≡ Less → x ≡ y → ⊥
less_differs x y h e = let s : slice_cmp nat_cmp y y ≡ Less = rw e at h in let t = tied_itself nat_list_cmp_total y in cc

pub sorted_apart : (ns : List (List ℕ)) → IsStrictlySortedBy (slice_cmp nat_cmp) ns → AreApart ns
unfolding IsStrictlySortedBy
sorted_apart [] h n l = absurd (omega arith)
sorted_apart (x ∷ xs) h zero l = rw (same_bytes x) refl
sorted_apart (x ∷ xs) h (suc n) l =
    let a = all_at (λ y. slice_cmp nat_cmp x y ≡ Less) xs n (omega arith) h.0 in
    let d = less_differs x (get_or xs n []) a in
    rw (other_bytes x (get_or xs n []) d, sorted_apart xs h.1 n (omega arith)) refl

-- ---- entries by their numbers

pub record InAt (t : List Entry) (e : Entry) : Type 0 where
  pub number : ℕ
  pub inside : number < length t
  pub is : entry_at t number ≡ e

in_later : (e x : Entry) (t : List Entry) → InAt t e → InAt (x ∷ t) e
in_later e x t i = record { number = suc i.number; inside = omega (arith, i.inside); is = i.is }

pub in_at : (e : Entry) (t : List Entry) → IsIn e t → InAt t e
in_at e t (first xs) = record { number = 0; inside = omega arith; is = refl }
in_at e t (later y xs i) = in_later e y xs (in_at e xs i)

pub at_in : (t : List Entry) (i : ℕ) → i < length t → IsIn (entry_at t i) t
at_in [] i l = absurd (omega arith)
at_in (e ∷ t) zero l = first t
at_in (e ∷ t) (suc i) l = later e t (at_in t i (omega arith))

-- a test that all pass, at one
pub passes : (p : Entry → Bool) (e : Entry) (t : List Entry) → list_all p t ≡ true → IsIn e t → p e ≡ true
passes p e t h (first xs) = and_left (p e) (list_all p xs) h
passes p e t h (later y xs i) = passes p e xs (and_right (p y) (list_all p xs) h) i

-- ---- names

good_short : (n : List ℕ) → is_good_name n ≡ true → IsShort n
good_short [] h = absurd (cc)
good_short (a ∷ []) h = absurd (cc)
good_short (a ∷ b ∷ []) h = absurd (cc)
good_short (a ∷ b ∷ c ∷ s) h = record {
  begins = rw (eq_of a 38 (and_left (a == 38) _ (and_left (is_good (a ∷ b ∷ c ∷ s)) _ h))) refl;
  long = omega arith;
  short = le_of (length (a ∷ b ∷ c ∷ s)) LENGTH_LIMIT (and_right (is_good (a ∷ b ∷ c ∷ s)) _ h);
}

pub gathered_names : (t : List Entry) → IsGathered t → length t ≤ NAMES_LIMIT → AreNames t
gathered_names t g l = record {
  apart = sorted_apart (names_in t) g.ascending;
  short = λ i k. good_short (entry_at t i).name (passes (λ (e : Entry). is_good_name e.name) (entry_at t i) t g.good (at_in t i k));
  few = l;
  ascending = g.ascending;
}

-- ---- a table

gathered_own : (t : List Entry) → IsGathered t → (e : Entry) → IsIn e t → points_of t e.name ≡ Some e.points
gathered_own t g e i =
    let n = in_at e t i in
    let p = own_place t (sorted_apart (names_in t) g.ascending) n.number n.inside in
    subst (λ (x : Entry). points_of t x.name ≡ Some x.points) n.is (points_place t (entry_at t n.number).name ∙ ap (λ o. option_map (λ j. (entry_at t j).points) o) p)

lone_no : (t : List Entry) (e : Entry) (es : List Entry) → first_lone t es ≡ None → IsIn e es → is_lone t e ≡ false
lone_no t e es h (first xs) = by_test (is_lone t e) h
  where
    by_test : (b : Bool) → cond b (Some e.name) (first_lone t xs) ≡ None → b ≡ false
    by_test true k = absurd (cc)
    by_test false k = refl
lone_no t e es h (later y xs i) = lone_no t e xs (by_test (is_lone t y) h) i
  where
    by_test : (b : Bool) → cond b (Some y.name) (first_lone t xs) ≡ None → first_lone t xs ≡ None
    by_test true k = absurd (cc)
    by_test false k = k

same_points : (o : Option (List ℕ)) (ps : List ℕ) → are_same o ps ≡ true → o ≡ Some ps
same_points None ps h = absurd (cc)
same_points (Some qs) ps h = ap Some ((bytes_eq-Decides qs ps).0 h)

lone_paired : (t : List Entry) (e : Entry) → is_lone t e ≡ false → is_closed e.name ≡ false → points_of t (e.name ++ 59 ∷ []) ≡ Some e.points
lone_paired t e h c = same_points (points_of t (e.name ++ 59 ∷ [])) e.points (by_tests (is_closed e.name) (are_same (points_of t (e.name ++ 59 ∷ [])) e.points) c h)
  where
    by_tests : (b d : Bool) → b ≡ false → (not b && not d) ≡ false → d ≡ true
    by_tests true d i j = absurd (cc)
    by_tests false true i j = refl
    by_tests false false i j = absurd (cc)

-- ---- points with too many names

lesser_none : (a b : Option ℕ) → lesser a b ≡ None → (a ≡ None) × (b ≡ None)
lesser_none None b h = (refl, h)
lesser_none (Some x) None h = absurd (cc)
lesser_none (Some x) (Some y) h = absurd (cc)

crowded_no : (t : List Entry) (e : Entry) (es : List Entry) → least_crowded t es ≡ None → IsIn e es → if_crowded t e.points ≡ None
crowded_no t e es h (first xs) = (lesser_none (if_crowded t e.points) (least_crowded t xs) h).0
crowded_no t e es h (later y xs i) = crowded_no t e xs (lesser_none (if_crowded t y.points) (least_crowded t xs) h).1 i

point_no : (t : List Entry) (c : ℕ) (ps : List ℕ) → head_is (λ p. p == c) ps ≡ true → if_crowded t ps ≡ None → is_crowded t c ≡ false
point_no t c [] f h = absurd (cc)
point_no t c (p ∷ ps) f h = by_test (is_crowded t c) (subst (λ n. cond (is_crowded t n) (Some n) None ≡ None) (eq_of p c f) h)
  where
    by_test : (b : Bool) → cond b (Some c) None ≡ None → b ≡ false
    by_test true k = absurd (cc)
    by_test false k = refl

-- some entry is counted
pub record Counted (p : Entry → Bool) (t : List Entry) : Type 0 where
  pub entry : Entry
  pub among : IsIn entry t
  pub passes_so : p entry ≡ true

counted_later : (p : Entry → Bool) (x : Entry) (t : List Entry) → Counted p t → Counted p (x ∷ t)
counted_later p x t k = record { entry = k.entry; among = later x t k.among; passes_so = k.passes_so }

pub counted : (p : Entry → Bool) (t : List Entry) → 0 < count_by p t → Counted p t
counted p [] l = absurd (omega arith)
counted p (e ∷ t) l = by_test (p e) refl (counted p t) (omega (arith, count_cons p e t))
  where
    by_test : (b : Bool) → p e ≡ b → (0 < count_by p t → Counted p t) → 0 < cond b 1 0 + count_by p t → Counted p (e ∷ t)
    by_test true h more k = record { entry = e; among = first t; passes_so = h }
    by_test false h more k = counted_later p e t (more (omega arith))

pub few_points : (t : List Entry) → least_crowded t t ≡ None → (c : ℕ) → (count_by (is_for c) t ≤ ALIKE_LIMIT) × (count_by (is_open_for c) t ≤ OPEN_LIMIT)
few_points t h c = by_test (is_crowded t c) refl
  where
    no_first : (e : Entry) → IsIn e t → is_for c e ≡ true → is_crowded t c ≡ true → ⊥
    no_first e i f k = let n = point_no t c e.points f (crowded_no t e t h i) in cc

    by_test : (b : Bool) → is_crowded t c ≡ b → (count_by (is_for c) t ≤ ALIKE_LIMIT) × (count_by (is_open_for c) t ≤ OPEN_LIMIT)
    by_test false k = (bound_all (count_by (is_for c) t) (count_by (is_open_for c) t) k, bound_open (count_by (is_for c) t) (count_by (is_open_for c) t) k)
      where
        bound_all : (m n : ℕ) → (nat_lt ALIKE_LIMIT m || nat_lt OPEN_LIMIT n) ≡ false → m ≤ ALIKE_LIMIT
        bound_all m n e = grind arith

        bound_open : (m n : ℕ) → (nat_lt ALIKE_LIMIT m || nat_lt OPEN_LIMIT n) ≡ false → n ≤ OPEN_LIMIT
        bound_open m n e = grind arith
    by_test true k = absurd (by_some (cases_lt 0 (count_by (is_for c) t)) (cases_lt 0 (count_by (is_open_for c) t)))
      where
        by_some : (0 < count_by (is_for c) t) ⊎ (count_by (is_for c) t ≤ 0) → (0 < count_by (is_open_for c) t) ⊎ (count_by (is_open_for c) t ≤ 0) → ⊥
        by_some (inl l) m = let s = counted (is_for c) t l in no_first s.entry s.among s.passes_so k
        by_some (inr l) (inl m) = let s = counted (is_open_for c) t m in no_first s.entry s.among (and_left (is_for c s.entry) _ s.passes_so) k
        by_some (inr l) (inr m) = by_zero (count_by (is_for c) t) (count_by (is_open_for c) t) l m k
          where
            by_zero : (a b : ℕ) → a ≤ 0 → b ≤ 0 → (nat_lt ALIKE_LIMIT a || nat_lt OPEN_LIMIT b) ≡ true → ⊥
            by_zero a b i j e = grind arith

-- names that pass all tests are a table
pub table_of : (t : List Entry) → IsGathered t → length t ≤ NAMES_LIMIT → least_crowded t t ≡ None → first_lone t t ≡ None → IsTable t
table_of t g l c h = record {
  ascending = g.ascending;
  own = λ e i. gathered_own t g e i;
  good = λ e i. passes (λ (x : Entry). is_good_name x.name) e t g.good i;
  pointed = λ e i. passes (λ (x : Entry). are_points x.points) e t g.pointed i;
  paired = λ e i k. lone_paired t e (lone_no t e t h i) k;
  few = l;
  few_for = λ p. few_points t c p;
}

-- and those are the ones that the checks leave
pub record Passed (t u : List Entry) : Type 0 where
  pub few : length t ≤ NAMES_LIMIT
  pub uncrowded : least_crowded t t ≡ None
  pub paired : first_lone t t ≡ None
  pub same : t ≡ u

pub checked_passed : (t u : List Entry) → checked t ≡ Ok u → Passed t u
checked_passed t u h = by_few (nat_lt NAMES_LIMIT (length t)) refl h
  where
    by_lone : (o : Option (List ℕ)) → first_lone t t ≡ o → length t ≤ NAMES_LIMIT → least_crowded t t ≡ None → unless o Lone (Ok t) ≡ Ok u → Passed t u
    by_lone None e l c k = record { few = l; uncrowded = c; paired = e; same = cc }
    by_lone (Some n) e l c k = absurd (cc)

    by_crowded : (o : Option ℕ) → least_crowded t t ≡ o → length t ≤ NAMES_LIMIT → unless o TooManyFor (unless (first_lone t t) Lone (Ok t)) ≡ Ok u → Passed t u
    by_crowded None e l k = by_lone (first_lone t t) refl l e k
    by_crowded (Some n) e l k = absurd (cc)

    by_few : (b : Bool) → nat_lt NAMES_LIMIT (length t) ≡ b → cond b (Err TooMany) (unless (least_crowded t t) TooManyFor (unless (first_lone t t) Lone (Ok t))) ≡ Ok u → Passed t u
    by_few true e k = absurd (cc)
    by_few false e k = by_crowded (least_crowded t t) refl (grind arith) k

pub checked_table : (t u : List Entry) → IsGathered t → checked t ≡ Ok u → IsTable u
checked_table t u g h = let p = checked_passed t u h in subst IsTable p.same (table_of t g p.few p.uncrowded p.paired)

-- no names are a table
pub no_table : IsTable []
unfolding IsStrictlySortedBy
no_table = record {
  ascending = tt;
  own = λ e i. elim i [ ];
  good = λ e i. elim i [ ];
  pointed = λ e i. elim i [ ];
  paired = λ e i k. elim i [ ];
  few = omega arith;
  few_for = λ c. (omega arith, omega arith);
}

pub no_names : AreNames []
unfolding IsStrictlySortedBy
no_names = record { apart = λ n l. absurd (omega arith); short = λ i l. absurd (omega arith); few = omega arith; ascending = tt }
