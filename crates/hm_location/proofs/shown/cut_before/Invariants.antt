use Rattle.std.proofs.Common.{◌≡◌, ◌-◌, ◌≤◌, length, drop}
use Rattle.hm_location.specs.declared.shown.TheConstants.{BEFORE}
use Rattle.hm_location.specs.Shown.{from_char, shown_before}
use Rattle.hm_location.proofs.shown.cut_before.Given as goal

abbrev pub invariant-loop-from : goal.invariant-loop-from
invariant-loop-from l = (l.from ≤ length l.front) × (from_char (drop l.from l.front) ≡ shown_before BEFORE l.front)

abbrev pub decreases-loop-from : goal.decreases-loop-from
decreases-loop-from l = length l.front - l.from
