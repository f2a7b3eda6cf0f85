-- The first of the best places, found from the last one on, and the order in which the attribute there goes last.
use Rattle.std.proofs.Common.{◌≡◌, ◌+◌, ◌<◌, ◌≤◌, ℕ, zero, suc, Bool, true, false, not, nat_le, List, [], ◌∷◌, ◌++◌, length, slice_get, Option, Some, None, refl, sym, ap, ◌∙◌, subst, arith, inl, inr, ◌⊎◌}
use Rattle.std.proofs.lemmas.Bool.Decides.{nat_tests}
use Rattle.std.proofs.lemmas.Option.{slice_get_within}
use Rattle.hm_base.specs.Walks.{Attribute}
use Rattle.hm_tree.specs.Moved.{moved}
use Rattle.hm_spelling_spec.specs.Tags.{Spelling}
use Rattle.hm_graph_laws.specs.Ways.{over}
use Rattle.hm_order.specs.Costs.{plus, inner_cost, last_cost}
use Rattle.hm_order.specs.Orders.{chosen, is_at_most, is_better_last, ordered, picked, Picked}
use Rattle.hm_order.specs.Places.{AreCosts, cost_at, IsFirstBest}
use Rattle.hm_order.proofs.Alone.{inner_apart}
use Rattle.hm_order.proofs.Prices.{over_plus}
use Rattle.hm_order.specs.declared.costs.AttrCost.{AttrCost}

-- ---- From a place on

-- the best of the places from one on
pub record IsBestFrom (costs : List AttrCost) (place best : ℕ) : Type 0 where
  pub inside : best < length costs
  pub least : (j : ℕ) → place ≤ j → j < length costs → (cost_at costs best).last + (cost_at costs j).inner ≤ (cost_at costs j).last + (cost_at costs best).inner
  pub first : (j : ℕ) → place ≤ j → j < best → (cost_at costs best).last + (cost_at costs j).inner < (cost_at costs j).last + (cost_at costs best).inner

at_most_by : (a b : ℕ) → nat_le a b ≡ true → a ≤ b
at_most_by a b h = grind (arith, nat_tests)

above_by : (a b : ℕ) → nat_le a b ≡ false → b < a
above_by a b h = grind (arith, nat_tests)

test_true : (a b : ℕ) → a ≤ b → nat_le a b ≡ true
test_true a b h = grind (arith, nat_tests)

test_false : (a b : ℕ) → b < a → nat_le a b ≡ false
test_false a b h = grind (arith, nat_tests)

module _ (costs : List AttrCost) (k best : ℕ) (h : IsBestFrom costs (k + 1) best) where
  abbrev l : ℕ → ℕ
  l j = (cost_at costs j).last

  abbrev n : ℕ → ℕ
  n j = (cost_at costs j).inner

  -- the place before them is at least as good
  pub takes_place : k < length costs → nat_le (l k + n best) (l best + n k) ≡ true → IsBestFrom costs k k
  takes_place inside test =
      let better = at_most_by (l k + n best) (l best + n k) test in
      record {
        inside = inside;
        least = λ j low high. by j high (le_cases k j low) better;
        first = λ j low high. absurd (omega (arith, low, high));
      }
    where
      le_cases : (k j : ℕ) → k ≤ j → (k ≡ j) ⊎ (k + 1 ≤ j)
      le_cases k j low = grind (arith)

      by : (j : ℕ) → j < length costs → (k ≡ j) ⊎ (k + 1 ≤ j) → l k + n best ≤ l best + n k → l k + n j ≤ l j + n k
      by j high (inl same) better = subst (λ i. l k + n i ≤ l i + n k) same (omega arith)
      by j high (inr more) better = omega (arith, better, h.least j more high)

  -- or it isn't
  pub keeps_best : nat_le (l k + n best) (l best + n k) ≡ false → IsBestFrom costs k best
  keeps_best test =
      let worse = above_by (l k + n best) (l best + n k) test in
      record {
        inside = h.inside;
        least = λ j low high. by j high (le_cases k j low) worse;
        first = λ j low high. strict j high (le_cases k j low) worse;
      }
    where
      le_cases : (k j : ℕ) → k ≤ j → (k ≡ j) ⊎ (k + 1 ≤ j)
      le_cases k j low = grind (arith)

      by : (j : ℕ) → j < length costs → (k ≡ j) ⊎ (k + 1 ≤ j) → l best + n k < l k + n best → l best + n j ≤ l j + n best
      by j high (inl same) worse = subst (λ i. l best + n i ≤ l i + n best) same (omega (arith, worse))
      by j high (inr more) worse = h.least j more high

      strict : (j : ℕ) → j < best → (k ≡ j) ⊎ (k + 1 ≤ j) → l best + n k < l k + n best → l best + n j < l j + n best
      strict j high (inl same) worse = subst (λ i. l best + n i < l i + n best) same (omega (arith, worse))
      strict j high (inr more) worse = h.first j more high

pub all_places : (costs : List AttrCost) (best : ℕ) → IsBestFrom costs 0 best → IsFirstBest costs best
all_places costs best h = record { inside = h.inside; least = λ j high. h.least j (omega arith) high; first = λ j high. h.first j (omega arith) high }

-- ---- What is picked stands there

-- a place where an attribute stands
record StandsAt (all : List Attribute) (a : Attribute) : Type 0 where
  place : ℕ
  is : slice_get all place ≡ Some a

pub costs_at : (g : Spelling) (closes : Bool) (costs : List AttrCost) (attributes : List Attribute) (i : ℕ) (a : Attribute) → AreCosts g closes costs attributes → slice_get attributes i ≡ Some a
    → (inner_cost g a ≡ Some (cost_at costs i).inner) × (last_cost g closes a ≡ Some (cost_at costs i).last)
costs_at g closes [] [] i a h at = absurd (cc)
costs_at g closes [] (x ∷ xs) i a h at = absurd h
costs_at g closes (c ∷ cs) [] i a h at = absurd h
costs_at g closes (c ∷ cs) (x ∷ xs) zero a h at = let same : x ≡ a = cc in subst (λ y. (inner_cost g y ≡ Some c.inner) × (last_cost g closes y ≡ Some c.last)) same h.0
costs_at g closes (c ∷ cs) (x ∷ xs) (suc i) a h at = costs_at g closes cs xs i a h.1 at

pub costs_count : (g : Spelling) (closes : Bool) (costs : List AttrCost) (attributes : List Attribute) → AreCosts g closes costs attributes → length costs ≡ length attributes
costs_count g closes [] [] h = refl
costs_count g closes [] (x ∷ xs) h = absurd h
costs_count g closes (c ∷ cs) [] h = absurd h
costs_count g closes (c ∷ cs) (x ∷ xs) h = ap suc (costs_count g closes cs xs h.1)

picked_stands : (g : Spelling) (closes : Bool) (xs : List Attribute) (a : Attribute) → StandsAt (a ∷ xs) (picked g closes a xs).last
picked_stands g closes [] a = record { place = 0; is = refl }
picked_stands g closes (b ∷ xs) a = by (is_better_last g closes a (picked g closes b xs).last) (picked_stands g closes xs b)
  where
    by : (t : Bool) → StandsAt (b ∷ xs) (picked g closes b xs).last → StandsAt (a ∷ b ∷ xs) (chosen t a (b ∷ xs) (picked g closes b xs)).last
    by true h = record { place = 0; is = refl }
    by false h = record { place = suc h.place; is = h.is }

better_by : (g : Spelling) (closes : Bool) (a b : Attribute) (c d : AttrCost) → (inner_cost g a ≡ Some c.inner) × (last_cost g closes a ≡ Some c.last) → (inner_cost g b ≡ Some d.inner) × (last_cost g closes b ≡ Some d.last)
    → is_better_last g closes a b ≡ nat_le (c.last + d.inner) (d.last + c.inner)
better_by g closes a b c d h k = (λ j. is_at_most (plus (h.1 j) (k.0 j)) (plus (k.1 j) (h.0 j)))

-- the first best place of a list after one more
first_best_after : (c : AttrCost) (costs : List AttrCost) (i : ℕ) → IsFirstBest (c ∷ costs) (suc i) → IsFirstBest costs i
first_best_after c costs i h = record {
  inside = let k = h.inside in omega (arith, k);
  least = λ j high. h.least (suc j) (omega (arith, high));
  first = λ j high. h.first (suc j) (omega (arith, high));
}

record IsMoved (g : Spelling) (closes : Bool) (a : Attribute) (xs : List Attribute) (i : ℕ) : Type 0 where
  order : (picked g closes a xs).others ++ (picked g closes a xs).last ∷ [] ≡ moved i (a ∷ xs)
  at : slice_get (a ∷ xs) i ≡ Some (picked g closes a xs).last

picked_moved : (g : Spelling) (closes : Bool) (costs : List AttrCost) (c : AttrCost) (xs : List Attribute) (a : Attribute) (i : ℕ) → AreCosts g closes (c ∷ costs) (a ∷ xs) → IsFirstBest (c ∷ costs) i → IsMoved g closes a xs i
picked_moved g closes [] c [] a zero h best = record { order = refl; at = refl }
picked_moved g closes [] c [] a (suc i) h best = absurd (let k = best.inside in omega (arith, k))
picked_moved g closes (d ∷ costs) c [] a i h best = absurd h.1
picked_moved g closes [] c (b ∷ xs) a i h best = absurd h.1
picked_moved g closes (d ∷ costs) c (b ∷ xs) a zero h best =
    let p : Picked = picked g closes b xs in
    let s = picked_stands g closes xs b in
    let k = costs_at g closes (d ∷ costs) (b ∷ xs) s.place p.last h.1 s.is in
    let inside : s.place < length (d ∷ costs) = omega (arith, slice_get_within (b ∷ xs) s.place p.last s.is, costs_count g closes (d ∷ costs) (b ∷ xs) h.1) in
    let least = best.least (suc s.place) (omega (arith, inside)) in
    let test : is_better_last g closes a p.last ≡ true = better_by g closes a p.last c (cost_at (d ∷ costs) s.place) h.0 k ∙ test_true _ _ least in
    record { order = ap (λ t. (chosen t a (b ∷ xs) p).others ++ (chosen t a (b ∷ xs) p).last ∷ []) test; at = ap (λ t. Some (chosen t a (b ∷ xs) p).last) (sym test) }
picked_moved g closes (d ∷ costs) c (b ∷ xs) a (suc i) h best =
    let p : Picked = picked g closes b xs in
    let m = picked_moved g closes costs d xs b i h.1 (first_best_after c (d ∷ costs) i best) in
    let k = costs_at g closes (d ∷ costs) (b ∷ xs) i p.last h.1 m.at in
    let strict = best.first 0 (omega arith) in
    let test : is_better_last g closes a p.last ≡ false = better_by g closes a p.last c (cost_at (d ∷ costs) i) h.0 k ∙ test_false _ _ strict in
    record { order = ap (λ t. (chosen t a (b ∷ xs) p).others ++ (chosen t a (b ∷ xs) p).last ∷ []) test ∙ ap (λ ys. a ∷ ys) m.order; at = m.at ∙ ap (λ t. Some (chosen t a (b ∷ xs) p).last) (sym test) }

-- the attribute at the first best place goes last
pub ordered_is_moved : (g : Spelling) (closes : Bool) (costs : List AttrCost) (attributes : List Attribute) (i : ℕ) → AreCosts g closes costs attributes → IsFirstBest costs i → ordered g closes attributes ≡ moved i attributes
ordered_is_moved g closes [] [] i h best = refl
ordered_is_moved g closes [] (a ∷ xs) i h best = absurd h
ordered_is_moved g closes (c ∷ costs) [] i h best = absurd h
ordered_is_moved g closes (c ∷ costs) (a ∷ xs) i h best = (picked_moved g closes costs c xs a i h best).order

-- one more attribute
pub costs_more : (g : Spelling) (closes : Bool) (costs : List AttrCost) (attributes : List Attribute) (c : AttrCost) (a : Attribute) → AreCosts g closes costs attributes → inner_cost g a ≡ Some c.inner → last_cost g closes a ≡ Some c.last
    → AreCosts g closes (costs ++ c ∷ []) (attributes ++ a ∷ [])
costs_more g closes [] [] c a h i l = ((i, l), tt)
costs_more g closes [] (x ∷ xs) c a h i l = absurd h
costs_more g closes (d ∷ costs) [] c a h i l = absurd h
costs_more g closes (d ∷ costs) (x ∷ xs) c a h i l = (h.0, costs_more g closes costs xs c a h.1 i l)

-- ---- Where each costs one byte less as the last one, the first one goes last

plus_comm : (p q : Option ℕ) → plus p q ≡ plus q p
plus_comm None None = refl
plus_comm None (Some b) = refl
plus_comm (Some a) None = refl
plus_comm (Some a) (Some b) = ap Some (omega arith)

at_most_self : (p : Option ℕ) → is_at_most p p ≡ true
at_most_self None = refl
at_most_self (Some n) = test_true n n (omega arith)

all_tie : (g : Spelling) → g.rules.tight ≡ false → (a b : Attribute) → is_better_last g false a b ≡ true
all_tie g apart a b =
    let p : Option ℕ = last_cost g false a in
    let q : Option ℕ = last_cost g false b in
    (λ j. is_at_most (plus p (inner_apart g b apart j)) (plus q (inner_apart g a apart j)))
    ∙ (λ j. is_at_most (over_plus 1 p q j) ((over_plus 1 q p ∙ ap (over 1) (plus_comm q p)) j))
    ∙ at_most_self (over 1 (plus p q))

pub first_goes_last : (g : Spelling) → g.rules.tight ≡ false → (attributes : List Attribute) → ordered g false attributes ≡ moved 0 attributes
first_goes_last g apart [] = refl
first_goes_last g apart (a ∷ []) = refl
first_goes_last g apart (a ∷ b ∷ xs) = ap (λ t. (chosen t a (b ∷ xs) (picked g false b xs)).others ++ (chosen t a (b ∷ xs) (picked g false b xs)).last ∷ []) (all_tie g apart a (picked g false b xs).last)

pub not_set : (b : Bool) → not b ≡ true → b ≡ false
not_set true h = cc
not_set false h = refl
