-- When steps are those of a graph: hops in the order of the edges, with their bytes, their lengths and the places of their ends.
use Rattle.std.specs.Prelude.{◌≡◌, ℕ, suc, List, [], ◌∷◌, length, Option, Some, None, option_map, if◌then◌else◌}
use Rattle.hm_graph_laws.specs.Layers.{states_after}
use Rattle.hm_graph_laws.specs.Ways.{Edges}
use Rattle.hm_graph_laws.specs.Edges.{Edge}
use Rattle.hm_graph_laws.specs.States.{State, same_state}
use Rattle.hm_graph_laws.specs.Units.{Unit}
use Rattle.hm_edges.specs.declared.pieces.Piece.{Piece}
use Rattle.hm_graph.specs.Steps.{Step}
use Rattle.hm_graph.specs.declared.hops.Hop.{Hop}

-- the first place of a state in a layer
abbrev pub place_of : List State → State → Option ℕ
place_of [] s = None
place_of (t ∷ states) s = if same_state t s then Some 0 else option_map (λ n. suc n) (place_of states s)

-- a hop is an edge to one of the states of the next layer
pub record HopFits (bytes : Piece → List ℕ) (after : List State) (e : Edge) (h : Hop) : Type 0 where
  pub writes : bytes h.piece ≡ e.bytes
  pub len : h.len ≡ length e.bytes
  pub to : place_of after e.to ≡ Some h.to

abbrev pub HopsFit : (Piece → List ℕ) → List State → List Edge → List Hop → Type 0
HopsFit bytes after [] [] = Prim.Unit {0}
HopsFit bytes after [] (h ∷ hops) = ⊥
HopsFit bytes after (e ∷ edges) [] = ⊥
HopsFit bytes after (e ∷ edges) (h ∷ hops) = HopFits bytes after e h × HopsFit bytes after edges hops

-- the hops of each state are its edges
abbrev pub StepFits : (Piece → List ℕ) → (State → List Edge) → List State → List State → Step → Type 0
StepFits bytes edges after [] [] = Prim.Unit {0}
StepFits bytes edges after [] (hops ∷ step) = ⊥
StepFits bytes edges after (s ∷ states) [] = ⊥
StepFits bytes edges after (s ∷ states) (hops ∷ step) = HopsFit bytes after (edges s) hops × StepFits bytes edges after states step

-- the steps of units from a layer with these states on, and the number of states of the last layer
abbrev pub StepsFit : Edges → (Unit → Piece → List ℕ) → List Unit → List State → List Step → ℕ → Type 0
StepsFit edges bytes [] states [] last = last ≡ length states
StepsFit edges bytes [] states (step ∷ steps) last = ⊥
StepsFit edges bytes (unit ∷ units) states [] last = ⊥
StepsFit edges bytes (unit ∷ units) states (step ∷ steps) last =
    StepFits (bytes unit) (edges unit) (states_after edges unit states) states step × StepsFit edges bytes units (states_after edges unit states) steps last
