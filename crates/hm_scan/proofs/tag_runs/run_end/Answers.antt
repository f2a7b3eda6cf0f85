use Rattle.std.proofs.Common.{sym, ◌∙◌}
use Rattle.hm_scan.specs.TagPlaces.{test_of}
use Rattle.hm_refs.proofs.RunEnds.{run_more}
use Rattle.hm_scan.proofs.tag_runs.run_end.Goals as goal

pub loop-at-preserved : goal.loop-at-preserved
loop-at-preserved c =
    run_more (test_of c.args.run) c.args.bytes.now c.args.from c.loop-at.at c.loop-at.invariant c.loop-at-test.true (sym c.has.ensures ∙ c.if-has.true)
