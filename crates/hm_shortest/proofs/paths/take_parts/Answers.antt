use Rattle.hm_shortest.proofs.Parts.{part_at}
use Rattle.hm_shortest.proofs.Walking.{goes_none, part_inside, part_taken, parts_all}
use Rattle.hm_event_parts.specs.Parts.{parts_units}
use Rattle.hm_shortest.proofs.paths.take_parts.Goals as goal

pub loop-part-init : goal.loop-part-init
loop-part-init c = goes_none c.args.graph.now (parts_units c.args.parts.now) c.args.way.now c.requires.on

pub take_part-requires-clause-inside : goal.take_part-requires-clause-inside
take_part-requires-clause-inside c = part_inside c.args.graph.now c.args.parts.now c.loop-part.part-index _ c.args.way.now c.loop-part.way c.loop-part-test.true c.requires.inside c.loop-part.invariant

pub take_part-requires-clause-on : goal.take_part-requires-clause-on
take_part-requires-clause-on c = c.loop-part.invariant.on

pub take_part-requires-clause-part : goal.take_part-requires-clause-part
take_part-requires-clause-part c = part_at c.args.parts.now c.loop-part.part-index _ c.requires.parts c.loop-part-test.true

pub loop-part-preserved : goal.loop-part-preserved
loop-part-preserved c = part_taken c.args.graph.now c.args.parts.now c.loop-part.part-index _ c.args.way.now c.loop-part.way c.take_part.new.way c.loop-part-test.true c.loop-part.invariant c.in_ok-take_part.ensures

pub returns : goal.returns
returns c = parts_all c.args.graph.now c.args.parts.now c.loop-part.part-index c.args.way.now c.loop-part.way c.loop-part-test.false c.loop-part.invariant
