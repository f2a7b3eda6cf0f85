-- The graph of sparse certificates: the edges of each state without those that another one dominates.
use Rattle.std.specs.Prelude.{ℕ, Bool, true, false, not, ◌&&◌, ◌||◌, ◌+◌, nat_lt, nat_le, List, [], ◌∷◌, if◌then◌else◌, is_some}
use Rattle.std.specs.List.{list_any, list_all}
use Rattle.hm_graph_laws.specs.Layers.{LayerTest, is_single}
use Rattle.hm_graph_laws.specs.Ways.{Edges}
use Rattle.hm_graph_laws.specs.CharacterEdges.{half_of, is_in_section}
use Rattle.hm_graph_laws.specs.Edges.{Edge, edge_length}
use Rattle.hm_graph_laws.specs.States.{Where, in_unquoted, in_double, in_single, Pending, State, state, nothing, same_state, same_where}
use Rattle.hm_graph_laws.specs.Units.{Unit, attribute_name}
use Rattle.hm_refs.specs.Names.{Entry}
use Rattle.hm_graph_laws.specs.Forms.{added, covers, gains, saved}

-- ---- Which edges are left, over any tests

-- Two tests of two edges of a unit from one state: whether the second dominates the first if it comes before it, and
-- if it comes after it.
pub record Dominance : Type 0 where
  pub in_front : Unit → Edge → Edge → Bool
  pub after : Unit → Edge → Edge → Bool

-- whether an edge is dominated by one of those before it or after it
abbrev pub is_dominated : Dominance → Unit → List Edge → Edge → List Edge → Bool
is_dominated d unit before e es = list_any (d.in_front unit e) before || list_any (d.after unit e) es

-- the edges that no other one dominates, in their order; `before` holds the earlier ones, in any order
abbrev pub kept_after : Dominance → Unit → List Edge → List Edge → List Edge
kept_after d unit before [] = []
kept_after d unit before (e ∷ es) = if is_dominated d unit before e es then kept_after d unit (e ∷ before) es else e ∷ kept_after d unit (e ∷ before) es

abbrev pub kept_edges : Dominance → Unit → List Edge → List Edge
kept_edges d unit es = kept_after d unit [] es

-- the edges that are left of these
abbrev pub sparse : Dominance → Edges → Edges
sparse d es unit s = kept_edges d unit (es unit s)

-- a layer is omitted if each of its states has exactly one edge
abbrev pub forced_follows : Edges → LayerTest
forced_follows es unit states = list_all (λ s. is_single (es unit s)) states

-- ---- A state that can replace another

-- Whether what is pending in a state may be forgotten: no section is open, and no second code point has still to come.
abbrev pub may_forget : State → Bool
may_forget s = not (is_in_section s.at) && not (is_some (half_of s.pending))

-- the same place with nothing pending
abbrev pub forgotten : State → State
forgotten s = state s.at nothing

-- Whether t can replace s: it is s, or s with what is pending forgotten.
abbrev pub can_replace : State → State → Bool
can_replace t s = same_state t s || (may_forget s && same_state t (forgotten s))

-- ---- A form of a value that can replace another

abbrev pub is_form : Where → Bool
is_form in_unquoted = true
is_form in_double = true
is_form in_single = true
is_form at = false

abbrev pub is_nothing : Pending → Bool
is_nothing nothing = true
is_nothing p = false

-- at the start of a value, in one of its forms
abbrev pub begins_form : State → Bool
begins_form s = is_form s.at && is_nothing s.pending

-- Whether t starts the value v in another form than s, and each character may be written as itself in it that may in s's.
abbrev pub form_serves : List ℕ → State → State → Bool
form_serves v t s = begins_form t && (begins_form s && (not (same_where t.at s.at) && covers t.at s.at v))

-- If the unit opens a value: whether f starts another form that can replace that of e, and f is shorter by `less`, with
-- what the change may add at most, than e with what it saves at least.
abbrev pub form_dominates : (ℕ → ℕ → Bool) → List Entry → Unit → Edge → Edge → Bool
form_dominates less t (attribute_name n v) e f = form_serves v f.to e.to && less (edge_length f + added e.to.at) (edge_length e + saved (gains t f.to.at e.to.at v))
form_dominates less t unit e f = false

-- ---- Dominance by a table

-- f, which comes before e, dominates it: its end can replace that of e, and it has no more bytes; or its form wins
abbrev pub dominates_in_front : List Entry → Unit → Edge → Edge → Bool
dominates_in_front t unit e f = (can_replace f.to e.to && nat_le (edge_length f) (edge_length e)) || form_dominates nat_le t unit e f

-- f, which comes after e, dominates it: its end can replace that of e, and it has fewer bytes; or its form wins
abbrev pub dominates_after : List Entry → Unit → Edge → Edge → Bool
dominates_after t unit e f = (can_replace f.to e.to && nat_lt (edge_length f) (edge_length e)) || form_dominates nat_lt t unit e f

abbrev pub dominance : List Entry → Dominance
dominance t = record { in_front = dominates_in_front t; after = dominates_after t }
