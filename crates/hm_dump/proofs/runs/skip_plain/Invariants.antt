use Rattle.std.proofs.Common.{◌-◌, ◌≤◌, length}
use Rattle.hm_dump.specs.Runs.{IsPlainRun}
use Rattle.hm_dump.proofs.runs.skip_plain.Given as goal

abbrev pub invariant-loop-at : goal.invariant-loop-at
invariant-loop-at l = (l.from ≤ l.at) × (l.at ≤ length l.bytes) × IsPlainRun l.bytes l.from l.at

abbrev pub decreases-loop-at : goal.decreases-loop-at
decreases-loop-at l = length l.bytes - l.at
