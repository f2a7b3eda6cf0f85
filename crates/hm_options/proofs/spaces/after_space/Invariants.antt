use Rattle.std.proofs.Common.{◌≡◌, ◌≤◌, ◌-◌, true, drop, length, IsCharBoundary}
use Rattle.hm_options.specs.Space.{spaced}
use Rattle.hm_options.proofs.spaces.after_space.Given as goal

abbrev pub invariant-loop-at : goal.invariant-loop-at
invariant-loop-at l = (l.at ≤ length l.bytes) × (spaced true l.bytes ≡ spaced true (drop l.at l.bytes)) × (IsCharBoundary l.bytes l.at)

abbrev pub decreases-loop-at : goal.decreases-loop-at
decreases-loop-at l = length l.bytes - l.at
