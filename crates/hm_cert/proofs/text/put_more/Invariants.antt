use Rattle.std.proofs.Common.{◌≡◌, ◌++◌, drop, map}
use Rattle.hm_cert.specs.Certificate.{more_prices}
use Rattle.hm_cert.specs.Layout.{told}
use Rattle.hm_cert.proofs.text.put_more.Given as goal

abbrev pub invariant-loop-price : goal.invariant-loop-price
invariant-loop-price l = l.out.items ++ more_prices (map told (drop l.price-index l.row)) ≡ l.initial.out.items ++ more_prices (map told l.row)
