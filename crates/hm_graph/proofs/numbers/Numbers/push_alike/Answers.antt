use Rattle.std.proofs.Common.{◌∙◌, ◌++◌, ap}
use Rattle.std.proofs.Math.ListN.{replicate}
use Rattle.hm_graph.specs.Runs.{unroll}
use Rattle.hm_graph.proofs.Runs.{more_same}
use Rattle.hm_graph.proofs.numbers.Numbers.push_alike.Goals as goal

pub returns-clause-ok : goal.returns-clause-ok
returns-clause-ok c =
    let runs = c.begin_run.new.runs.items in
    let latest = c.begin_run.new.latest in
    more_same (unroll runs) latest.count c.args.count latest.number
    ∙ ap (λ ns. ns ++ replicate c.args.count latest.number) (c.begin_run.ensures.same ∙ c.self.view_is)
    ∙ ap (λ n. c.args.self.now ++ replicate c.args.count n) c.in_ok-begin_run.ensures.number
