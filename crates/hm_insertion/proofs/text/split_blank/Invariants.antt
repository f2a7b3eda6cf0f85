use Rattle.std.proofs.Common.{◌≡◌, ◌≤◌, ◌-◌, true, take, length, IsCharBoundary}
use Rattle.hm_base.specs.Bytes.{is_space, all_pass}
use Rattle.hm_insertion.proofs.text.split_blank.Given as goal

abbrev pub invariant-loop-at : goal.invariant-loop-at
invariant-loop-at l = (l.at ≤ length l.bytes) × (all_pass is_space (take l.at l.bytes) ≡ true) × (IsCharBoundary l.bytes l.at)

abbrev pub decreases-loop-at : goal.decreases-loop-at
decreases-loop-at l = length l.bytes - l.at
