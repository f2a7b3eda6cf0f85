-- The place of the attribute that goes last, by what each one costs.
use Rattle.std.specs.Prelude.{◌≡◌, ℕ, zero, suc, ◌+◌, ◌^◌, ◌<◌, ◌≤◌, Bool, List, [], ◌∷◌, length, Option, Some, None, slice_get, slice_index_or}
use Rattle.hm_base.specs.Walks.{Attribute, Event}
use Rattle.hm_spelling_spec.specs.Tags.{Spelling}
use Rattle.hm_order.specs.Costs.{inner_cost, last_cost}
use Rattle.hm_order.specs.Orders.{ordered_event}
use Rattle.hm_tree.specs.Moved.{put_last}
use Rattle.hm_order.specs.declared.costs.AttrCost.{AttrCost}

-- no sum of two costs overflows
abbrev pub IsLowCost : AttrCost → Type 0
IsLowCost c = (c.inner < 2 ^ 62) × (c.last < 2 ^ 62)

abbrev pub no_cost : AttrCost
no_cost = record { inner = 0; last = 0 }

abbrev pub cost_at : List AttrCost → ℕ → AttrCost
cost_at costs i = slice_index_or costs i no_cost

-- The first place at which the cost of the last attribute less that of an inner one is least. Sums on both sides of a comparison
-- stand for the differences.
pub record IsFirstBest (costs : List AttrCost) (i : ℕ) : Type 0 where
  pub inside : i < length costs
  pub least : (j : ℕ) → j < length costs → (cost_at costs i).last + (cost_at costs j).inner ≤ (cost_at costs j).last + (cost_at costs i).inner
  pub first : (j : ℕ) → j < i → (cost_at costs i).last + (cost_at costs j).inner < (cost_at costs j).last + (cost_at costs i).inner

-- what each attribute costs
abbrev pub AreCosts : Spelling → Bool → List AttrCost → List Attribute → Type 0
AreCosts g closes [] [] = Prim.Unit {0}
AreCosts g closes [] (a ∷ attributes) = ⊥
AreCosts g closes (c ∷ costs) [] = ⊥
AreCosts g closes (c ∷ costs) (a ∷ attributes) = ((inner_cost g a ≡ Some c.inner) × (last_cost g closes a ≡ Some c.last)) × AreCosts g closes costs attributes

-- ---- One tag

-- a walk with the attributes of event i in that order
abbrev pub ordered_at : Spelling → List Event → ℕ → List Event
ordered_at g [] i = []
ordered_at g (e ∷ w) zero = ordered_event g e (slice_get w 0) ∷ w
ordered_at g (e ∷ w) (suc i) = e ∷ ordered_at g w i

-- the attribute that goes last to put event i into that order, or none where it is so already
abbrev pub IsOrderedBy : Spelling → List Event → ℕ → Option ℕ → Type 0
IsOrderedBy g w i None = ordered_at g w i ≡ w
IsOrderedBy g w i (Some at) = put_last w i at ≡ ordered_at g w i
