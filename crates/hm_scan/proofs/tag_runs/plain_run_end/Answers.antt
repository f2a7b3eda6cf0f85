use Rattle.std.proofs.Common.{sym, ◌∙◌}
use Rattle.hm_base.specs.Forms.{is_tag_byte}
use Rattle.hm_refs.proofs.RunEnds.{run_more}
use Rattle.hm_scan.proofs.Letters.{letters_run}
use Rattle.hm_scan.proofs.tag_runs.plain_run_end.Goals as goal

pub loop-at-init : goal.loop-at-init
loop-at-init c = letters_run c.args.bytes.now c.args.from c.run_end-at.result c.run_end-at.ensures

pub loop-at-preserved : goal.loop-at-preserved
loop-at-preserved c =
    run_more is_tag_byte c.args.bytes.now c.args.from c.loop-at.at c.loop-at.invariant c.loop-at-test.true (sym c.is_tag_byte.ensures ∙ c.if-is_tag_byte.true)
