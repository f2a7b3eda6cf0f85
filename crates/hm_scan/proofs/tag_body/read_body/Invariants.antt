use Rattle.std.proofs.Common.{◌-◌, length}
use Rattle.hm_scan.proofs.TagBodies.{IsReadTo}
use Rattle.hm_scan.proofs.tag_body.read_body.Given as goal

abbrev pub invariant-loop-slash : goal.invariant-loop-slash
invariant-loop-slash l = IsReadTo l.table.entries l.keeps l.text l.from l.at l.attrs l.collected

abbrev pub decreases-loop-slash : goal.decreases-loop-slash
decreases-loop-slash l = length l.text - l.at
