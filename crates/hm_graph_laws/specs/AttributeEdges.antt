-- The edges in a tag with attributes, in their order.
use Rattle.std.specs.Prelude.{ℕ, Bool, true, false, ◌&&◌, List, [], ◌∷◌, ◌++◌, if◌then◌else◌, codes}
use Rattle.hm_refs.specs.Names.{Entry}
use Rattle.hm_graph_laws.specs.Edges.{Edge, edge, edge_to}
use Rattle.hm_graph_laws.specs.States.{Where, self_closed, after_name, after_unquoted, after_quoted, in_unquoted, in_double, in_single, nothing, State, first_state, value_spot}
use Rattle.hm_graph_laws.specs.Steps.{may_end}

-- '<' and the name
abbrev pub name_edges : List ℕ → List Edge
name_edges n = edge (60 ∷ n) after_name nothing ∷ []

abbrev pub is_after_quoted : Where → Bool
is_after_quoted after_quoted = true
is_after_quoted at = false

-- the byte before an attribute: a space, but nothing after a quote where attributes may touch
abbrev pub gap_at : Bool → Where → List ℕ
gap_at tight at = if tight && is_after_quoted at then [] else 32 ∷ []

-- an attribute with an empty value
abbrev pub bare_edges : Bool → List ℕ → State → List Edge
bare_edges tight n s = edge (gap_at tight s.at ++ n) after_name nothing ∷ []

-- the name of any other attribute, its '=' and what opens its value
abbrev pub opening_edges : Bool → Bool → List ℕ → State → List Edge
opening_edges tight unquote n s =
    (if unquote then edge (gap_at tight s.at ++ (n ++ codes "=")) in_unquoted nothing ∷ [] else [])
    ++ edge (gap_at tight s.at ++ (n ++ codes "=\"")) in_double nothing ∷ edge (gap_at tight s.at ++ (n ++ codes "='")) in_single nothing ∷ []

abbrev pub closed_at : Where → List Edge
closed_at in_unquoted = edge [] after_unquoted nothing ∷ []
closed_at in_double = edge (34 ∷ []) after_quoted nothing ∷ []
closed_at in_single = edge (39 ∷ []) after_quoted nothing ∷ []
closed_at at = []

-- what closes a value, where it may end
abbrev pub closing_edges : List Entry → State → List Edge
closing_edges t s = if may_end t (value_spot s.at) s.pending then closed_at s.at else []

abbrev pub is_after_unquoted : Where → Bool
is_after_unquoted after_unquoted = true
is_after_unquoted at = false

-- '>', and also `/>` where the tag may close itself; `/>` stands apart from a value without quotes
abbrev pub close_edges : Bool → State → List Edge
close_edges closes s =
    edge_to (62 ∷ []) first_state
    ∷ (if closes then edge (if is_after_unquoted s.at then codes " />" else codes "/>") self_closed nothing ∷ [] else [])
