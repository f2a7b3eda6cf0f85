use Rattle.hm_cert.proofs.KeptDigits.{kept_hundred}
use Rattle.hm_cert.proofs.hundreds.KeptDigits.new.Goals as goal

pub invariant_of-result : goal.invariant_of-result
invariant_of-result c = record { kept = kept_hundred }
