use Rattle.std.proofs.Common.{◌∙◌, append-nil}
use Rattle.hm_graph.specs.Runs.{unroll}
use Rattle.hm_graph.proofs.numbers.begin_run.Goals as goal

pub returns-clause-same : goal.returns-clause-same
returns-clause-same c = append-nil (unroll c.push_run.new.runs.items) ∙ c.in_ok-push_run.ensures.ok
