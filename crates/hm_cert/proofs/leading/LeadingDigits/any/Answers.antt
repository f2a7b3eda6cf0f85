use Rattle.hm_cert.proofs.LeadingDigits.{thousand}
use Rattle.hm_cert.proofs.leading.LeadingDigits.any.Goals as goal

pub invariant_of-result : goal.invariant_of-result
invariant_of-result c = record { known = thousand }
