-- The least price of a tag, and the shortest text over all orders of attributes.
use Rattle.std.specs.Prelude.{◌≡◌, ℕ, ◌+◌, Bool, true, false, List, ◌∷◌, ◌++◌, length, Option, if◌then◌else◌}
use Rattle.hm_base.specs.Walks.{Attribute, Event, walk_size}
use Rattle.hm_base.specs.declared.plain.SpellRules.{SpellRules}
use Rattle.hm_elements.specs.Settled.{Settled}
use Rattle.hm_graph_laws.specs.UnitEdges.{edges_of}
use Rattle.hm_graph_laws.specs.Ways.{least, over, first_way}
use Rattle.hm_refs.specs.Names.{Entry}
use Rattle.hm_refs.specs.Tables.{IsTable}
use Rattle.hm_spelling_spec.specs.Spellings.{Shortest}
use Rattle.hm_spelling_spec.specs.Tags.{Spelling}
use Rattle.hm_graph_laws.specs.States.{State, self_closed, nothing, state, first_state}
use Rattle.hm_graph_laws.specs.Units.{Unit, tag_name, attribute_units, tag_close, end_tag, units_of}
use Rattle.hm_graph_laws.specs.ExchangeLaws.{sparing_plain}
use Rattle.hm_order.specs.Costs.{plus, attributes_cost}
use Rattle.hm_order.specs.Orders.{Like, reordered}

-- what a tag ends with, and all after it
abbrev pub close_cost : Spelling → Bool → List Unit → Option ℕ
close_cost g closes rest = if closes then over 2 (least (edges_of g) rest (state self_closed nothing)) else over 1 (least (edges_of g) rest first_state)

-- an element that may close itself has an end tag that isn't left out
abbrev pub ClosesBefore : Bool → List Unit → Type 0
ClosesBefore false rest = Prim.Unit {0}
ClosesBefore true rest = (n : List ℕ) × (notes_omission : Bool) × (more : List Unit) × (rest ≡ end_tag n false notes_omission ∷ more)

-- '<' and the name, a gap, the attributes, and what doesn't depend on their order
abbrev pub TagsSplit : Type 0
TagsSplit = (g : Spelling) (name : List ℕ) (a : Attribute) (attributes : List Attribute) (closes : Bool) (rest : List Unit) (s : State) → ClosesBefore closes rest
    → least (edges_of g) (tag_name name ∷ (attribute_units (a ∷ attributes) ++ tag_close closes ∷ rest)) s ≡ over (length name + 2) (plus (attributes_cost g closes a attributes) (close_cost g closes rest))

-- ---- The order that is written

-- No spelling of a tree that differs from w in the order of attributes alone has fewer than n bytes.
abbrev pub ShortestAny : List Entry → SpellRules → List Event → ℕ → Type 0
ShortestAny t r w n = (v : List Event) → Settled v → Like w v → Shortest t r v n

-- A settled tree is settled with its attributes in any order.
abbrev pub LikeIsSettled : Type 0
LikeIsSettled = (w v : List Event) → Like w v → Settled w → Settled v

abbrev pub OrderedIsLike : Type 0
OrderedIsLike = (g : Spelling) (w : List Event) → Like w (reordered g w)

abbrev pub OrderedIsAsLarge : Type 0
OrderedIsAsLarge = (g : Spelling) (w : List Event) → (length (reordered g w) ≡ length w) × (walk_size (reordered g w) ≡ walk_size w)

-- A bound on the spellings of the tree in that order bounds those of the tree with its attributes in any order.
abbrev pub OrderedBoundsAll : Type 0
OrderedBoundsAll = (t : List Entry) → IsTable t → (r : SpellRules) (w : List Event) → Settled (reordered (sparing_plain t r) w) → (n : ℕ)
    → Shortest t r (reordered (sparing_plain t r) w) n → ShortestAny t r w n

-- The shortest text of the tree in that order is one of the shortest over all orders.
abbrev pub OrderedIsShortest : Type 0
OrderedIsShortest = (t : List Entry) → IsTable t → (r : SpellRules) (w : List Event) → Settled w
    → ShortestAny t r w (length (first_way (edges_of (sparing_plain t r)) (units_of r (reordered (sparing_plain t r) w)) first_state))
