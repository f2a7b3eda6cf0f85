use Rattle.std.proofs.Common.{◌≡◌, ◌-◌, length}
use Rattle.hm_cert.proofs.BackNumbers.{AreDigitsAfter}
use Rattle.hm_cert.proofs.short.back_number.Given as goal

abbrev pub invariant-loop-at : goal.invariant-loop-at
invariant-loop-at l = record {
  after : AreDigitsAfter l.text l.at l.number l.power;
  low : l.low ≡ length l.text - 18;
}

abbrev pub decreases-loop-at : goal.decreases-loop-at
decreases-loop-at l = l.at - l.low
