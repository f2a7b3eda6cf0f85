use Rattle.std.proofs.Common.{◌-◌, length}
use Rattle.hm_scan.proofs.ValueReads.{IsPassed}
use Rattle.hm_scan.proofs.values.next_reference.Given as goal

abbrev pub invariant-loop-len : goal.invariant-loop-len
invariant-loop-len l = IsPassed l.table.entries l.bytes l.from l.at

abbrev pub decreases-loop-len : goal.decreases-loop-len
decreases-loop-len l = length l.bytes - l.at
