-- What a search for edges finds.
use Rattle.std.specs.Prelude.{◌≡◌, List, ◌++◌, Result, OnOk}
use Rattle.hm_base.specs.declared.plain.SpellRules.{SpellRules}
use Rattle.hm_graph_laws.specs.ExchangeLaws.{sparing_plain}
use Rattle.hm_graph_laws.specs.UnitEdges.{edges_of}
use Rattle.hm_refs.specs.Tables.{TableView}
use Rattle.hm_graph_laws.specs.Edges as graph
use Rattle.hm_graph_laws.specs.Units as units
use Rattle.hm_edges.specs.declared.pieces.Edge.{Edge}
use Rattle.hm_edges.specs.declared.states.State.{State}
use Rattle.hm_edges.specs.declared.units.Unit.{Unit}
use Rattle.hm_edges.specs.Pieces.{edges_seen, AreOfTable}
use Rattle.hm_edges.specs.States.{state_of}
use Rattle.hm_edges.specs.Units.{StandsFor}

-- for each unit of a tree that this one stands for, these are its edges, in their order
abbrev pub AreEdges : TableView → SpellRules → Unit → State → List Edge → Type 0
AreEdges v rules unit from es = (u : units.Unit) → StandsFor v.entries unit u → edges_seen v u es ≡ edges_of (sparing_plain v.entries rules) u (state_of v from)

-- for each of them these are a prefix of its edges
abbrev pub AreFront : TableView → SpellRules → Unit → State → List Edge → Type 0
AreFront v rules unit from es = (u : units.Unit) → StandsFor v.entries unit u → (rest : List graph.Edge) × (edges_seen v u es ++ rest ≡ edges_of (sparing_plain v.entries rules) u (state_of v from))

-- The buffer has more edges after those from before: these as edges of the unit, or, after an error, a prefix of them.
-- They are of the table.
pub record AddsEdges {E : Type 0} (r : Result (Prim.Unit {0}) E) (v : TableView) (u : units.Unit) (before now : List Edge) (more : List graph.Edge) : Type 0 where
  pub edges : OnOk r (edges_seen v u now ≡ edges_seen v u before ++ more)
  pub front : (rest : List graph.Edge) × (edges_seen v u now ++ rest ≡ edges_seen v u before ++ more)
  pub known : AreOfTable v before → AreOfTable v now
