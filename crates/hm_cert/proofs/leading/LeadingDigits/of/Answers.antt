use Rattle.hm_cert.proofs.LeadingDigits.{leading_of}
use Rattle.hm_cert.proofs.leading.LeadingDigits.of.Goals as goal

pub invariant_of-result : goal.invariant_of-result
invariant_of-result c = record { known = leading_of c.args.word.now c.args.price c.requires.can c.requires.word c.if-word-lt6.false c.if-word-gt10.false }
