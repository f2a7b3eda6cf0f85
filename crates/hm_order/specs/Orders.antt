-- The order of a tag's attributes: the first of those that cost least in the last place stands there, the others keep their order.
use Rattle.std.specs.Prelude.{◌≡◌, ℕ, Bool, true, false, ◌&&◌, nat_le, List, [], ◌∷◌, ◌++◌, Option, Some, None}
use Rattle.std.specs.Prelude.{IsPermutation}
use Rattle.hm_base.specs.Walks.{Attribute, Event, doctype, start, text, comment, end}
use Rattle.hm_spelling_spec.specs.Tags.{Spelling}
use Rattle.hm_graph_laws.specs.Units.{may_close_itself}
use Rattle.hm_order.specs.Costs.{plus, inner_cost, last_cost}

abbrev pub is_at_most : Option ℕ → Option ℕ → Bool
is_at_most p None = true
is_at_most None (Some b) = false
is_at_most (Some a) (Some b) = nat_le a b

-- of two attributes the first is at least as good a last one
abbrev pub is_better_last : Spelling → Bool → Attribute → Attribute → Bool
is_better_last g closes a b = is_at_most (plus (last_cost g closes a) (inner_cost g b)) (plus (last_cost g closes b) (inner_cost g a))

pub record Picked : Type 0 where
  pub others : List Attribute
  pub last : Attribute

abbrev pub chosen : Bool → Attribute → List Attribute → Picked → Picked
chosen true a attributes p = record { others = attributes; last = a }
chosen false a attributes p = record { others = a ∷ p.others; last = p.last }

-- the first of those that are best in the last place, and the others in their order
abbrev pub picked : Spelling → Bool → Attribute → List Attribute → Picked
picked g closes a [] = record { others = []; last = a }
picked g closes a (b ∷ attributes) = chosen (is_better_last g closes a (picked g closes b attributes).last) a (b ∷ attributes) (picked g closes b attributes)

abbrev pub ordered : Spelling → Bool → List Attribute → List Attribute
ordered g closes [] = []
ordered g closes (a ∷ attributes) = (picked g closes a attributes).others ++ (picked g closes a attributes).last ∷ []

abbrev pub is_end : Option Event → Bool
is_end (Some (end n foreign)) = true
is_end next = false

-- an event with its attributes in that order, by the event after it
abbrev pub ordered_event : Spelling → Event → Option Event → Event
ordered_event g (start n foreign attributes) next = start n foreign (ordered g (foreign && is_end next) attributes)
ordered_event g e next = e

-- a walk with the attributes of each tag in that order
abbrev pub reordered : Spelling → List Event → List Event
reordered g [] = []
reordered g (doctype legacy ∷ w) = doctype legacy ∷ reordered g w
reordered g (start n foreign attributes ∷ w) = start n foreign (ordered g (may_close_itself foreign w) attributes) ∷ reordered g w
reordered g (text s raw ∷ w) = text s raw ∷ reordered g w
reordered g (comment s ∷ w) = comment s ∷ reordered g w
reordered g (end n foreign ∷ w) = end n foreign ∷ reordered g w

-- ---- Walks that differ in the order of attributes alone

abbrev pub LikeEvent : Event → Event → Type 0
LikeEvent (start n foreign attributes) (start m other more) = (n ≡ m) × (foreign ≡ other) × IsPermutation attributes more
LikeEvent e d = e ≡ d

abbrev pub Like : List Event → List Event → Type 0
Like [] [] = Prim.Unit {0}
Like [] (d ∷ v) = ⊥
Like (e ∷ w) [] = ⊥
Like (e ∷ w) (d ∷ v) = LikeEvent e d × Like w v
