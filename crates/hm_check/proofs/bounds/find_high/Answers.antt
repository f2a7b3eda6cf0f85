use Rattle.std.proofs.Common.{sym, subst}
use Rattle.hm_graph.specs.Graphs.{AreLowHops}
use Rattle.hm_graph.proofs.Low.{low_hops}
use Rattle.hm_check.proofs.bounds.find_high.Goals as goal

pub best_price-bound-requires-clause-low : goal.best_price-bound-requires-clause-low
best_price-bound-requires-clause-low c = subst AreLowHops (sym c.hops.ensures) (low_hops c.args.step.now c.loop-state.state c.requires.low)
