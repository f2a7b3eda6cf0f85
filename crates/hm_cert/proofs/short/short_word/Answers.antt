use Rattle.std.proofs.Common.{refl, arith}
use Rattle.hm_cert.proofs.ShortLines.{short_number}
use Rattle.hm_cert.proofs.short.short_word.Goals as goal

pub returns : goal.returns
returns c = short_number c.args.text.now c.count_digits-len.result c.count_digits-len.ensures (c.if-not-has_number_form.ensures.0 refl) c.if-len-gt18.false (omega (arith, c.if-len-text.false, c.count_digits-len.ensures.within))
