use Rattle.std.proofs.Common.{◌≡◌, drop}
use Rattle.std.specs.List.{list_any}
use Rattle.hm_edges.specs.Pieces.{edge_of, edges_seen}
use Rattle.hm_edges.specs.Units.{StandsFor}
use Rattle.hm_optimality_laws.specs.Dominated.{dominates_after}
use Rattle.hm_graph_laws.specs.Units as units
use Rattle.hm_graph.proofs.dominated.some_dominates_after.Given as goal

abbrev pub invariant-loop-other : goal.invariant-loop-other
invariant-loop-other l = (u : units.Unit) → StandsFor l.table.entries l.unit u
    → list_any (dominates_after l.table.entries u (edge_of l.table u l.edge)) (edges_seen l.table u (drop l.other-index l.others)) ≡ list_any (dominates_after l.table.entries u (edge_of l.table u l.edge)) (edges_seen l.table u l.others)
