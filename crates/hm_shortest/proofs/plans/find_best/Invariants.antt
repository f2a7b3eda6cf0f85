use Rattle.std.proofs.Common.{map}
use Rattle.hm_cert.specs.Layout.{told}
use Rattle.hm_shortest.proofs.Prices.{IsBestFrom}
use Rattle.hm_shortest.proofs.plans.find_best.Given as goal

abbrev pub invariant-loop-place : goal.invariant-loop-place
invariant-loop-place l = IsBestFrom (map told l.next_row) l.hops l.place l.best.price l.best.place
