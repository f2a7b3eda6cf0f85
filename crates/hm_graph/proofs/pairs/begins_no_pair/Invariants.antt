use Rattle.std.proofs.Common.{◌≡◌, ℕ, drop}
use Rattle.hm_edges.specs.Units.{has_pair}
use Rattle.hm_graph.proofs.PairNames.{pair_among}
use Rattle.hm_graph.proofs.pairs.begins_no_pair.Given as goal

abbrev pub invariant-loop-id : goal.invariant-loop-id
invariant-loop-id l = (d : ℕ) → pair_among l.table.entries l.fn.c d (drop l.id-index l.id-items) ≡ has_pair l.table.entries l.fn.c d
