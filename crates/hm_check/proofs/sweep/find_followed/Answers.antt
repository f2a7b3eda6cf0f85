use Rattle.std.proofs.Common.{sym, subst}
use Rattle.hm_graph.specs.Graphs.{AreLowHops}
use Rattle.hm_graph.proofs.Low.{low_hops}
use Rattle.hm_check.proofs.sweep.find_followed.Goals as goal

pub best_price-requires-clause-low : goal.best_price-requires-clause-low
best_price-requires-clause-low c = subst AreLowHops (sym c.hops.ensures) (low_hops c.args.step.now c.loop-place.place c.requires.low)
