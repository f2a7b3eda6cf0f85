use Rattle.std.proofs.Common.{◌∙◌, None}
use Rattle.hm_edges.specs.States.{pending_of, spot_of}
use Rattle.hm_edges.proofs.RunningOn.{run_on}
use Rattle.hm_edges.proofs.characters.run.Goals as goal

pub loop-byte-preserved : goal.loop-byte-preserved
loop-byte-preserved c = record {
  ahead = run_on c.args.table.now.entries (spot_of c.args.spot) (pending_of c.args.table.now c.loop-byte.after) _ c.args.bytes.now c.loop-byte.byte-index c.loop-byte-test.true c.in_ok-after.ensures.step ∙ c.loop-byte.invariant.ahead;
  nodes = c.in_ok-after.ensures.nodes;
}

pub returns-in_err-after-clause-run : goal.returns-in_err-after-clause-run
returns-in_err-after-clause-run c =
    rw c.from_residual.ensures
    (run_on c.args.table.now.entries (spot_of c.args.spot) (pending_of c.args.table.now c.loop-byte.after) None c.args.bytes.now c.loop-byte.byte-index c.loop-byte-test.true c.in_err-after.ensures.step ∙ c.loop-byte.invariant.ahead)
