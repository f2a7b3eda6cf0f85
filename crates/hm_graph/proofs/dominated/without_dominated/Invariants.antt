use Rattle.hm_edges.specs.Pieces.{AreOfTable}
use Rattle.hm_edges.specs.Units.{StandsFor}
use Rattle.hm_graph_laws.specs.Units as units
use Rattle.hm_graph.proofs.KeptEdges.{SomeKept}
use Rattle.hm_graph.proofs.dominated.without_dominated.Given as goal

abbrev pub invariant-loop-place : goal.invariant-loop-place
invariant-loop-place l = record {
  edges : (u : units.Unit) → StandsFor l.table.entries l.unit u → SomeKept l.table u l.edges l.kept.items l.place;
  known : AreOfTable l.table l.kept.items;
}
