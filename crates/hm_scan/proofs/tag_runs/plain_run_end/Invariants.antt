use Rattle.std.proofs.Common.{◌-◌, length}
use Rattle.hm_base.specs.Forms.{is_tag_byte}
use Rattle.hm_refs.proofs.RunEnds.{Runs}
use Rattle.hm_scan.proofs.tag_runs.plain_run_end.Given as goal

abbrev pub invariant-loop-at : goal.invariant-loop-at
invariant-loop-at l = Runs is_tag_byte l.bytes l.from l.at

abbrev pub decreases-loop-at : goal.decreases-loop-at
decreases-loop-at l = length l.bytes - l.at
