-- The edges of tags without attributes, and of bytes without a choice, in their order.
use Rattle.std.specs.Prelude.{ℕ, Bool, true, false, not, ◌&&◌, List, [], ◌∷◌, ◌++◌, if◌then◌else◌, codes}
use Rattle.hm_graph_laws.specs.Edges.{Edge, edge, edge_to}
use Rattle.hm_graph_laws.specs.States.{Where, outside, after_omitted_end, self_closed, nothing, State, first_state, state}

-- bytes without a choice
abbrev pub fixed_edges : List ℕ → List Edge
fixed_edges b = edge_to b first_state ∷ []

abbrev pub is_after_omitted_end : Where → Bool
is_after_omitted_end after_omitted_end = true
is_after_omitted_end at = false

abbrev pub omission_forgotten : Where → Where
omission_forgotten after_omitted_end = outside
omission_forgotten at = at

abbrev pub start_bytes : List ℕ → List ℕ
start_bytes n = codes "<" ++ (n ++ codes ">")

abbrev pub end_bytes : List ℕ → List ℕ
end_bytes n = codes "</" ++ (n ++ codes ">")

-- A start tag: nothing, where it may be left out; the tag; the tag with a '/'. After an omitted end a required one isn't left out.
abbrev pub start_edges : List ℕ → Bool → Bool → Bool → State → List Edge
start_edges n omits required_after_omission closes s =
    (if omits && not (required_after_omission && is_after_omitted_end s.at) then edge_to [] (state (omission_forgotten s.at) s.pending) ∷ [] else [])
    ++ edge_to (start_bytes n) first_state ∷ (if closes then edge (codes "<" ++ (n ++ codes "/>")) self_closed nothing ∷ [] else [])

abbrev pub is_self_closed : Where → Bool
is_self_closed self_closed = true
is_self_closed at = false

-- where an end tag that is left out leads
abbrev pub after_left_out : Bool → State → State
after_left_out true s = state after_omitted_end nothing
after_left_out false s = s

-- An end tag: nothing, after a start tag that closed itself; else nothing, where it may be left out, and the tag.
abbrev pub end_edges : List ℕ → Bool → Bool → State → List Edge
end_edges n omits notes_omission s =
    if is_self_closed s.at then edge_to [] first_state ∷ []
    else (if omits then edge_to [] (after_left_out notes_omission s) ∷ [] else []) ++ edge_to (end_bytes n) first_state ∷ []
