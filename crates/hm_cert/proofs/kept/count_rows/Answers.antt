use Rattle.std.proofs.Common.{arith}
use Rattle.hm_cert.proofs.Before.{passed_done}
use Rattle.hm_cert.proofs.kept.count_rows.Goals as goal

pub loop-spare-preserved : goal.loop-spare-preserved
loop-spare-preserved c = record {
  few = omega (arith, c.loop-spare.invariant.few, c.in_ok-pass_row.ensures.shorter c.if-branch.true);
  done = passed_done _ _ _ c.in_ok-pass_row.field-0 c.loop-spare.count c.loop-spare.invariant.done c.in_ok-pass_row.ensures.row c.if-branch.true;
}
