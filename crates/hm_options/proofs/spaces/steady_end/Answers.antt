use Rattle.std.proofs.Common.{◌+◌, ◌≤◌, length, arith}
use Rattle.hm_options.proofs.Fronts.{steady_more}
use Rattle.hm_options.proofs.spaces.steady_end.Goals as goal

pub loop-at-preserved : goal.loop-at-preserved
loop-at-preserved c =
    let kept = c.loop-at.invariant in
    let inside : c.loop-at.at + 16 ≤ length c.args.bytes.now = omega (arith, kept.1, c.loop-at-test.true) in
    (omega (arith, kept.0), inside, steady_more c.args.bytes.now c.loop-at.at 16 (c.loop-at.at + 15) (omega arith) kept.0 inside kept.2 (c.has_change.ensures c.if-not-has_change.true))
