use Rattle.std.proofs.Common.{◌+◌, ◌≤◌, length, sym, ◌∙◌, arith}
use Rattle.hm_dump.proofs.RunLemmas.{plain_more}
use Rattle.hm_dump.proofs.runs.skip_plain.Goals as goal

pub loop-at-preserved : goal.loop-at-preserved
loop-at-preserved c =
    let kept = c.loop-at.invariant in
    let inside : c.loop-at.at + c.args.width ≤ length c.args.bytes.now = omega (arith, kept.1, c.loop-at-test.true) in
    (omega (arith, kept.0), inside, plain_more c.args.bytes.now c.args.from c.loop-at.at c.args.width kept.2 inside (sym c.has_escaped.ensures ∙ c.if-not-has_escaped.true))
