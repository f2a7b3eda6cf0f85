use Rattle.std.proofs.Common.{length, drop, ◌≡◌, ◌-◌, ◌≤◌}
use Rattle.hm_base.specs.RawText.{first_end, marks_from, script_end}
use Rattle.hm_scan.specs.Scripts.{state_of}
use Rattle.hm_scan.proofs.scripts.script_end.Given as goal

abbrev pub invariant-marks : goal.invariant-marks
invariant-marks l = record { low : l.from ≤ l.at; high : l.at ≤ length l.bytes; same : script_end (drop l.from l.bytes) ≡ first_end (state_of l.state) (marks_from (l.at - l.from) (drop l.at l.bytes)) }

abbrev pub decreases-marks : goal.decreases-marks
decreases-marks l = length l.bytes - l.at
