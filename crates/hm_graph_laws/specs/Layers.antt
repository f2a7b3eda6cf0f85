-- The layers of the graph: the states that may be reached between two units, in order of first appearance.
use Rattle.std.specs.Prelude.{ℕ, suc, Bool, true, false, not, ◌&&◌, ◌==◌, List, [], ◌∷◌, ◌++◌, if◌then◌else◌}
use Rattle.std.specs.List.{list_any, list_all}
use Rattle.hm_graph_laws.specs.Ways.{Edges}
use Rattle.hm_graph_laws.specs.Edges.{Edge}
use Rattle.hm_graph_laws.specs.States.{State, first_state, same_state}
use Rattle.hm_graph_laws.specs.Units.{Unit}

-- with a state at the end, where it isn't there yet
abbrev pub with_state : List State → State → List State
with_state states s = if list_any (λ t. same_state t s) states then states else states ++ s ∷ []

-- with the ends of these edges
abbrev pub with_ends : List State → List Edge → List State
with_ends states [] = states
with_ends states (e ∷ es) = with_ends (with_state states e.to) es

-- with the ends of the edges of a unit from these states
abbrev pub with_layer : Edges → List State → Unit → List State → List State
with_layer es ends unit [] = ends
with_layer es ends unit (s ∷ states) = with_layer es (with_ends ends (es unit s)) unit states

-- the states of the next layer, in order of first appearance
abbrev pub states_after : Edges → Unit → List State → List State
states_after es unit states = with_layer es [] unit states

abbrev pub first_layer : List State
first_layer = first_state ∷ []

-- the states of each layer, from one on whose states these are
abbrev pub layers : Edges → List Unit → List State → List (List State)
layers es [] states = states ∷ []
layers es (unit ∷ units) states = states ∷ layers es units (states_after es unit states)

-- ---- Which layers are written

-- A test of a layer by its unit and states: whether its prices follow from the next layer's prices, so that they aren't
-- written.
abbrev pub LayerTest : Type 0
LayerTest = Unit → List State → Bool

-- no layer is left out
abbrev pub nothing_follows : LayerTest
nothing_follows unit states = false

abbrev pub is_single : {A : Type 0} → List A → Bool
is_single (x ∷ []) = true
is_single xs = false

-- one state with one edge
abbrev pub single_follows : Edges → LayerTest
single_follows es unit states = is_single states && list_all (λ s. is_single (es unit s)) states

-- The first layer and the last one are written, and of the others those that don't follow from the next one. These states
-- are those of layer k.
abbrev pub written_from : Edges → LayerTest → ℕ → List Unit → List State → List ℕ
written_from es follows k [] states = k ∷ []
written_from es follows k (unit ∷ units) states =
    if not (k == 0) && follows unit states then written_from es follows (suc k) units (states_after es unit states)
    else k ∷ written_from es follows (suc k) units (states_after es unit states)

-- the numbers of the written layers
abbrev pub written : Edges → LayerTest → List Unit → List ℕ
written es follows units = written_from es follows 0 units first_layer
