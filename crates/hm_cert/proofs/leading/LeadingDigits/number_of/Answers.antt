use Rattle.std.proofs.Common.{refl, rules}
use Rattle.hm_cert.proofs.LeadingDigits.{begins}
use Rattle.hm_cert.proofs.leading.LeadingDigits.number_of.Goals as goal

pub returns : goal.returns
returns c =
    begins c.args.text.now c.args.self.now.digits.now c.args.self.now.number c.in_ok-last.last c.if-text-len.false (c.if-not-begins_with.ensures refl) (search rules) c.in_ok-last.ensures
