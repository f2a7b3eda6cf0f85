use Rattle.hm_cert.specs.Short.{AreDigits}
use Rattle.hm_cert.proofs.short.count_digits.Given as goal

abbrev pub invariant-loop-len : goal.invariant-loop-len
invariant-loop-len l = AreDigits l.text l.len
