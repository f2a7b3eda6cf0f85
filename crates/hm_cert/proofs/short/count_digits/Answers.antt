use Rattle.hm_cert.proofs.ShortLines.{digits_more}
use Rattle.hm_cert.proofs.short.count_digits.Goals as goal

pub loop-len-preserved : goal.loop-len-preserved
loop-len-preserved c = digits_more c.args.text.now c.loop-len.len c.loop-len-test.true c.loop-len.invariant c.if-not-is_ascii_digit.ensures.value
