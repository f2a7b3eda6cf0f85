use Rattle.std.proofs.Common.{◌≡◌, drop}
use Rattle.hm_edges.specs.Units.{has_pair}
use Rattle.hm_graph.proofs.PairNames.{pair_among}
use Rattle.hm_graph.proofs.pairs.has_pair.Given as goal

abbrev pub invariant-loop-id : goal.invariant-loop-id
invariant-loop-id l = pair_among l.table.entries l.c l.d (drop l.id-index l.id-items) ≡ has_pair l.table.entries l.c l.d
