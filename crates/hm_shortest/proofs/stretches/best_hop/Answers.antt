use Rattle.std.proofs.Common.{sym, subst}
use Rattle.hm_graph.proofs.Low.{low_hops}
use Rattle.hm_graph.specs.Graphs.{AreLowHops}
use Rattle.hm_shortest.proofs.stretches.best_hop.Goals as goal

pub find_best-requires-clause-low : goal.find_best-requires-clause-low
find_best-requires-clause-low c = subst AreLowHops (sym c.hops-hops.ensures) (low_hops c.args.step.now c.args.place c.requires.low)
