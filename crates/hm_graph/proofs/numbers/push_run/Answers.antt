use Rattle.std.proofs.Common.{◌∙◌, ap, sym, subst, arith}
use Rattle.hm_graph.specs.Runs.{AreRuns, unroll}
use Rattle.hm_graph.proofs.Runs.{runs_more, unroll_more}
use Rattle.hm_graph.proofs.numbers.push_run.Goals as goal

pub returns-clause-runs : goal.returns-clause-runs
returns-clause-runs c = subst AreRuns (sym c.in_ok-push.ensures.items) (runs_more c.args.runs.now.items c.args.run c.requires (omega (arith, c.if-run-eq0.false)))

pub returns-clause-ok : goal.returns-clause-ok
returns-clause-ok c = ap unroll c.in_ok-push.ensures.items ∙ unroll_more c.args.runs.now.items c.args.run
