-- A test of neighbours that a list is sorted.
use Rattle.std.proofs.Common.{◌≡◌, ℕ, Bool, true, false, ◌&&◌, List, [], ◌∷◌, map, length, get_or, Some, Ordering, Less, Equal, Greater, refl, sym, ◌∙◌, subst, arith, bytes_eq}
use Rattle.std.proofs.lemmas.Cmp.{nat_list_cmp_total}
use Rattle.std.proofs.lemmas.List.{length-map, get_or-map}
use Rattle.std.proofs.lemmas.Slice.Eq.{bytes_eq-Decides}
use Rattle.std.specs.Ordering.{nat_cmp}
use Rattle.std.specs.Cmp.Lexicographic.{slice_cmp}
use Rattle.std.specs.List.{AllByRecursion}
use Rattle.std.specs.List.Sorted.{IsStrictlySortedBy}
use Rattle.hm_refs.specs.Nodes.{place, AreApart}
use Rattle.hm_refs.proofs.Bools.{and_left, and_right}
use Rattle.hm_refs.proofs.Gathered.{sorted_apart}
use Rattle.hm_refs.proofs.Places.{same_bytes, other_bytes}

abbrev pub is_less : Ordering → Bool
is_less Less = true
is_less Equal = false
is_less Greater = false

-- each list is below the next one
abbrev pub rises_from : List ℕ → List (List ℕ) → Bool
rises_from p [] = true
rises_from p (q ∷ qs) = is_less (slice_cmp nat_cmp p q) && rises_from q qs

abbrev pub rises : List (List ℕ) → Bool
rises [] = true
rises (p ∷ qs) = rises_from p qs

less_of : (o : Ordering) → is_less o ≡ true → o ≡ Less
less_of Less h = refl
less_of Equal h = absurd (cc)
less_of Greater h = absurd (cc)

above_more : (p q : List ℕ) → slice_cmp nat_cmp p q ≡ Less → (rs : List (List ℕ)) → AllByRecursion (λ r. slice_cmp nat_cmp q r ≡ Less) rs → AllByRecursion (λ r. slice_cmp nat_cmp p r ≡ Less) rs
above_more p q h [] a = tt
above_more p q h (r ∷ rs) a = (nat_list_cmp_total.trans p q r h a.0, above_more p q h rs a.1)

sorted_from : (p : List ℕ) (qs : List (List ℕ)) → rises_from p qs ≡ true → AllByRecursion (λ q. slice_cmp nat_cmp p q ≡ Less) qs × IsStrictlySortedBy (slice_cmp nat_cmp) qs
unfolding IsStrictlySortedBy
sorted_from p [] h = (tt, tt)
sorted_from p (q ∷ qs) h =
    let l = less_of (slice_cmp nat_cmp p q) (and_left (is_less (slice_cmp nat_cmp p q)) _ h) in
    let r = sorted_from q qs (and_right (is_less (slice_cmp nat_cmp p q)) _ h) in
    ((l, above_more p q l qs r.0), r)

pub sorted : (ps : List (List ℕ)) → rises ps ≡ true → IsStrictlySortedBy (slice_cmp nat_cmp) ps
unfolding IsStrictlySortedBy
sorted [] h = tt
sorted (p ∷ ps) h = sorted_from p ps h

-- ---- by their lengths first

abbrev pub with_length : List ℕ → List ℕ
with_length f = length f ∷ f

same_with : (f q : List ℕ) → bytes_eq (with_length f) (with_length q) ≡ bytes_eq f q
same_with f q = by_test (bytes_eq f q) refl
  where
    by_test : (b : Bool) → bytes_eq f q ≡ b → bytes_eq (with_length f) (with_length q) ≡ b
    by_test true e = let i = (bytes_eq-Decides f q).0 e in rw i (same_bytes (with_length q))
    by_test false e = other_bytes (with_length f) (with_length q) (λ i. differs (cc))
      where
        differs : f ≡ q → ⊥
        differs i = let k = (bytes_eq-Decides f q).1 i in cc

place_with : (q : List ℕ) (fs : List (List ℕ)) → place (with_length q) (map with_length fs) ≡ place q fs
place_with q [] = refl
place_with q (f ∷ fs) = rw (same_with f q, place_with q fs) refl

pub apart_by_length : (fs : List (List ℕ)) → rises (map with_length fs) ≡ true → AreApart fs
apart_by_length fs h n l =
    let a = sorted_apart (map with_length fs) (sorted (map with_length fs) h) n (omega (arith, length-map fs with_length)) in
    let e : get_or (map with_length fs) n [] ≡ with_length (get_or fs n []) = get_or-map with_length fs n [] [] l in
    sym (place_with (get_or fs n []) fs) ∙ subst (λ q. place q (map with_length fs) ≡ Some n) e a
