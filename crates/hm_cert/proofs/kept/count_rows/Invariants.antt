use Rattle.std.proofs.Common.{◌+◌, ◌≤◌, length}
use Rattle.hm_cert.specs.Reading.{rows_in}
use Rattle.hm_cert.proofs.Before.{AreDone}
use Rattle.hm_cert.proofs.kept.count_rows.Given as goal

abbrev pub invariant-loop-spare : goal.invariant-loop-spare
invariant-loop-spare l = record {
  few : l.count + length l.lines.rest.now ≤ length l.initial.lines.rest.now;
  done : AreDone (rows_in l.initial.lines.number l.initial.lines.rest.now) (rows_in l.lines.number l.lines.rest.now) l.count;
}

abbrev pub decreases-loop-spare : goal.decreases-loop-spare
decreases-loop-spare l = length l.lines.rest.now
