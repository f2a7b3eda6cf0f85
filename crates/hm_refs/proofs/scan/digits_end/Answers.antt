use Rattle.std.proofs.Common.{sym, ◌∙◌}
use Rattle.hm_base.specs.Bytes.{is_digit_of}
use Rattle.hm_refs.proofs.RunEnds.{run_more}
use Rattle.hm_refs.proofs.scan.digits_end.Goals as goal

pub loop-at-preserved : goal.loop-at-preserved
loop-at-preserved c =
    run_more (is_digit_of c.args.base) c.args.text.now c.args.from c.loop-at.at c.loop-at.invariant c.loop-at-test.true (sym c.is_digit.ensures ∙ c.if-is_digit.true)
