use Rattle.std.proofs.Common.{sym, subst}
use Rattle.hm_graph.specs.Graphs.{IsLowStep}
use Rattle.hm_graph.proofs.Low.{low_step}
use Rattle.hm_check.proofs.sweep.Sweep.go_on.Goals as goal

pub read_on-requires-clause-still : goal.read_on-requires-clause-still
read_on-requires-clause-still c = (c.in-Some.ensures.still.1, c.in-Some.ensures.low (subst IsLowStep (sym c.step-step.ensures) (low_step c.args.graph.now.steps c.args.at.layer c.every_graph.ensures.graph.low)))
