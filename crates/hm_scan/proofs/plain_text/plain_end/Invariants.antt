use Rattle.std.proofs.Common.{length, ◌-◌, ◌≤◌}
use Rattle.hm_scan.proofs.Ends.{NoEnd}
use Rattle.hm_scan.proofs.plain_text.plain_end.Given as goal

abbrev pub invariant-signs : goal.invariant-signs
invariant-signs l = record { low : l.from ≤ l.at; high : l.at ≤ length l.bytes; none : NoEnd l.table.entries l.rcdata l.bytes l.from l.at }

abbrev pub decreases-signs : goal.decreases-signs
decreases-signs l = length l.bytes - l.at
