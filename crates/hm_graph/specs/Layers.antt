-- What is made of a unit and the states before it: hops, a step, the states after it.
use Rattle.std.specs.Prelude.{◌≡◌, ℕ, ◌<◌, ◌^◌, List, [], ◌∷◌, Some, map}
use Rattle.hm_graph_laws.specs.Layers.{states_after, with_ends, with_state}
use Rattle.hm_graph_laws.specs.Ways.{Edges}
use Rattle.hm_refs.specs.Names.{Entry}
use Rattle.hm_refs.specs.Tables.{TableView}
use Rattle.hm_graph_laws.specs.States as graph
use Rattle.hm_graph_laws.specs.Units as units
use Rattle.hm_edges.specs.Pieces.{HasName, edge_of, edges_seen, piece_bytes}
use Rattle.hm_edges.specs.States.{HasNodes, state_of}
use Rattle.hm_edges.specs.Units.{StandsFor}
use Rattle.hm_edges.specs.declared.pieces.Edge.{Edge}
use Rattle.hm_edges.specs.declared.states.State.{State}
use Rattle.hm_edges.specs.declared.units.Unit.{Unit}
use Rattle.hm_graph.specs.Fits.{HopFits, HopsFit, StepFits, place_of}
use Rattle.hm_graph.specs.Steps.{Step}
use Rattle.hm_graph.specs.declared.hops.Hop.{Hop}
use Rattle.hm_graph.specs.Graphs.{tree_edges, AreLowHops, AreNamedHops, IsLowStep, IsNamedStep}
use Rattle.hm_graph.specs.declared.rules.EdgeRules.{EdgeRules}

-- the edges by a table and these rules
abbrev pub edges_under : List Entry → EdgeRules → Edges
edges_under t rules = tree_edges t rules.spell rules.format

-- what the states of a layer mean
abbrev pub states_of : TableView → List State → List graph.State
states_of v states = map (state_of v) states

-- each node in them is one of the table
abbrev pub HaveNodes : TableView → List State → Type 0
HaveNodes v [] = Prim.Unit {0}
HaveNodes v (s ∷ states) = HasNodes v s.pending × HaveNodes v states

-- the states are those from before with this one, which has this place
pub record IsPlaced (v : TableView) (s : State) (before now : List State) (n : ℕ) : Type 0 where
  pub states : states_of v now ≡ with_state (states_of v before) (state_of v s)
  pub place : place_of (states_of v now) (state_of v s) ≡ Some n
  pub nodes : HaveNodes v now

-- the hop is this edge of the unit, and the states are those from before with its end
pub record IsHop (v : TableView) (unit : Unit) (e : Edge) (before now : List State) (h : Hop) : Type 0 where
  pub fits : (u : units.Unit) → StandsFor v.entries unit u → HopFits (piece_bytes v.entries u) (states_of v now) (edge_of v u e) h
  pub states : states_of v now ≡ with_state (states_of v before) (state_of v e.to)
  pub nodes : HaveNodes v now
  pub low : h.len < 2 ^ 33
  pub named : HasName v.entries h.piece

-- the hops are these edges of the unit, and the states are those from before with their ends
pub record AreHops (v : TableView) (unit : Unit) (es : List Edge) (before now : List State) (hops : List Hop) : Type 0 where
  pub fit : (u : units.Unit) → StandsFor v.entries unit u → HopsFit (piece_bytes v.entries u) (states_of v now) (edges_seen v u es) hops
  pub states : (u : units.Unit) → states_of v now ≡ with_ends (states_of v before) (edges_seen v u es)
  pub nodes : HaveNodes v now
  pub low : AreLowHops hops
  pub named : AreNamedHops v.entries hops

-- for each unit of a tree that this one stands for, these are its edges, in their order
abbrev pub AreEdgesUnder : TableView → EdgeRules → Unit → State → List Edge → Type 0
AreEdgesUnder v rules unit from es = (u : units.Unit) → StandsFor v.entries unit u → edges_seen v u es ≡ edges_under v.entries rules u (state_of v from)

-- the step is that of the unit from these states to those after it
pub record IsLayer (v : TableView) (rules : EdgeRules) (unit : Unit) (from after : List State) (step : Step) : Type 0 where
  pub fits : (u : units.Unit) → StandsFor v.entries unit u → StepFits (piece_bytes v.entries u) (edges_under v.entries rules u) (states_of v after) (states_of v from) step
  pub states : (u : units.Unit) → StandsFor v.entries unit u → states_of v after ≡ states_after (edges_under v.entries rules) u (states_of v from)
  pub nodes : HaveNodes v after
  pub low : IsLowStep step
  pub named : IsNamedStep v.entries step
