use Rattle.std.proofs.Common.{◌-◌, length, string_bytes}
use Rattle.hm_scan.proofs.ValueReads.{IsReadTo}
use Rattle.hm_scan.proofs.values.read_value.Given as goal

abbrev pub invariant-loop-placed : goal.invariant-loop-placed
invariant-loop-placed l = IsReadTo l.table.entries l.written (string_bytes l.value) l.at

abbrev pub decreases-loop-placed : goal.decreases-loop-placed
decreases-loop-placed l = length l.written - l.at
