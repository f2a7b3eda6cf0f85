use Rattle.std.proofs.Common.{◌≡◌, ◌++◌, drop, map, reverse}
use Rattle.hm_cert.specs.Certificate.{more_prices}
use Rattle.hm_cert.specs.Layout.{told}
use Rattle.hm_cert.proofs.reversed.put_more.Given as goal

abbrev pub invariant-loop-k : goal.invariant-loop-k
invariant-loop-k l = l.out.items ≡ l.initial.out.items ++ reverse (more_prices (map told (drop l.k l.row)))
