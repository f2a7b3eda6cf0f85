use Rattle.std.proofs.Common.{◌∙◌}
use Rattle.hm_refs.specs.Nodes.{entries_of}
use Rattle.hm_refs.proofs.FirstsLaws.{least_next}
use Rattle.hm_refs.proofs.firsts.least_crowded.Goals as goal

pub loop-name-preserved : goal.loop-name-preserved
loop-name-preserved c =
    rw c.lesser-least.ensures (least_next (entries_of c.args.names.now) c.args.names.now c.loop-name.name-index _ c.loop-name.least _ c.loop-name-test.true c.name-item.is c.if_crowded.ensures) ∙ c.loop-name.invariant
