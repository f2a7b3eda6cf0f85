use Rattle.std.proofs.Common.{◌-◌, length}
use Rattle.hm_base.specs.Bytes.{is_digit_of}
use Rattle.hm_refs.proofs.RunEnds.{Runs}
use Rattle.hm_refs.proofs.scan.digits_end.Given as goal

abbrev pub invariant-loop-at : goal.invariant-loop-at
invariant-loop-at l = Runs (is_digit_of l.base) l.text l.from l.at

abbrev pub decreases-loop-at : goal.decreases-loop-at
decreases-loop-at l = length l.text - l.at
