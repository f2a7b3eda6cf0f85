use Rattle.std.proofs.Common.{◌≡◌, ◌++◌, drop, reverse}
use Rattle.hm_cert.proofs.reversed.put_bytes.Given as goal

abbrev pub invariant-loop-k : goal.invariant-loop-k
invariant-loop-k l = l.out.items ≡ l.initial.out.items ++ reverse (drop l.k l.bytes)
