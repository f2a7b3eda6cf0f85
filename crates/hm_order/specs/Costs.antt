-- How many bytes the attributes of a tag take, by which of them is the last.
use Rattle.std.specs.Prelude.{ℕ, ◌+◌, Bool, ◌&&◌, List, [], ◌∷◌, ◌++◌, length, Option, Some, None, if◌then◌else◌, chars}
use Rattle.hm_graph_laws.specs.AttributeEdges.{gap_at, is_after_unquoted}
use Rattle.hm_base.specs.Walks.{Attribute}
use Rattle.hm_graph_laws.specs.UnitEdges.{edges_of}
use Rattle.hm_graph_laws.specs.Ways.{least, lesser, over}
use Rattle.hm_spelling_spec.specs.Tags.{Spelling}
use Rattle.hm_graph_laws.specs.States.{Where, after_name, after_unquoted, after_quoted, in_unquoted, in_double, in_single, nothing, state}
use Rattle.hm_graph_laws.specs.Units.{Unit, in_value, character_units, attribute_end}

-- the sum of two prices, infinite (None) if one of them is
abbrev pub plus : Option ℕ → Option ℕ → Option ℕ
plus None q = None
plus (Some a) q = over a q

-- the units of a value, with what closes it
abbrev pub value_units : List ℕ → List Unit
value_units value = character_units in_value (chars value) ++ attribute_end ∷ []

-- the fewest bytes of a value, with its last quote, from a place in it
abbrev pub value_cost : Spelling → Where → List ℕ → Option ℕ
value_cost g at value = least (edges_of g) (value_units value) (state at nothing)

-- The fewest bytes of an attribute in any form. `after` says how many bytes are counted after it, by how its value ends. The
-- byte before it isn't counted.
abbrev pub cost_of : Spelling → (Where → ℕ) → List ℕ → List ℕ → Option ℕ
cost_of g after name [] = Some (length name + after after_name)
cost_of g after name (c ∷ s) =
    lesser (if g.rules.unquote then over (length name + 1) (plus (value_cost g in_unquoted (c ∷ s)) (Some (after after_unquoted))) else None)
    (lesser (over (length name + 2) (plus (value_cost g in_double (c ∷ s)) (Some (after after_quoted))))
    (over (length name + 2) (plus (value_cost g in_single (c ∷ s)) (Some (after after_quoted)))))

-- an attribute with another one after it: the gap between them is counted
abbrev pub inner_cost : Spelling → Attribute → Option ℕ
inner_cost g a = cost_of g (λ at. length (gap_at g.rules.tight at)) a.name a.value

-- the last attribute: a space is counted between a value without quotes and the '/' of a tag that closes itself
abbrev pub last_cost : Spelling → Bool → Attribute → Option ℕ
last_cost g closes a = cost_of g (λ at. if closes && is_after_unquoted at then 1 else 0) a.name a.value

-- all attributes of a tag, in their order
abbrev pub attributes_cost : Spelling → Bool → Attribute → List Attribute → Option ℕ
attributes_cost g closes a [] = last_cost g closes a
attributes_cost g closes a (b ∷ attributes) = plus (inner_cost g a) (attributes_cost g closes b attributes)
