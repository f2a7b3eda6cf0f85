use Rattle.std.proofs.Common.{sym, subst}
use Rattle.hm_graph.proofs.Named.{named_hops}
use Rattle.hm_graph.specs.Graphs.{AreNamedHops}
use Rattle.hm_check.proofs.followed.over_step.Goals as goal

pub over_hops-requires : goal.over_hops-requires
over_hops-requires c = subst (AreNamedHops c.args.table.now.entries) (sym c.hops.ensures) (named_hops c.args.table.now.entries c.args.step.now c.args.place c.requires)
