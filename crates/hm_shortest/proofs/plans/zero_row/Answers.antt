use Rattle.std.proofs.Common.{◌≡◌, ◌∙◌, ap, arith}
use Rattle.hm_graph.specs.Prices.{zeros}
use Rattle.hm_shortest.proofs.Rows.{zeros_more}
use Rattle.hm_shortest.proofs.plans.zero_row.Goals as goal

pub loop-place-preserved : goal.loop-place-preserved
loop-place-preserved c = zeros_more c.loop-place.row.items _ c.loop-place._place c.loop-place.invariant c.in_ok-push.ensures.items

pub returns : goal.returns
returns c = let all : c.loop-place._place ≡ c.args.last = omega arith in c.loop-place.invariant ∙ ap zeros all
