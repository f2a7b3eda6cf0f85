use Rattle.std.proofs.Common.{◌≡◌, ◌≤◌, ◌-◌, ◌++◌, false, take, drop, length}
use Rattle.hm_options.specs.Space.{spaced}
use Rattle.hm_options.proofs.spaces.spaced_front.Given as goal

abbrev pub invariant-loop-to : goal.invariant-loop-to
invariant-loop-to l = (l.to ≤ length l.bytes) × (spaced false l.bytes ≡ take l.to l.bytes ++ spaced l.after (drop l.to l.bytes))

abbrev pub decreases-loop-to : goal.decreases-loop-to
decreases-loop-to l = length l.bytes - l.to
