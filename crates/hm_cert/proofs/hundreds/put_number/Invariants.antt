use Rattle.std.proofs.Common.{◌≡◌, ◌++◌, reverse}
use Rattle.std.specs.Fmt.{decimal}
use Rattle.hm_cert.proofs.hundreds.put_number.Given as goal

abbrev pub invariant-loop-rest : goal.invariant-loop-rest
invariant-loop-rest l = l.out.items ++ reverse (decimal l.rest) ≡ l.initial.out.items ++ reverse (decimal l.number)

abbrev pub decreases-loop-rest : goal.decreases-loop-rest
decreases-loop-rest l = l.rest
