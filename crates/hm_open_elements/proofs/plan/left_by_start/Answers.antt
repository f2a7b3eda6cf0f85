use Rattle.std.proofs.Common.{◌≡◌, arith, true, false}
use Rattle.hm_elements.specs.Nesting.{is_closed_by_start}
use Rattle.hm_elements.specs.Paths.{is_closed_by_start_of}
use Rattle.hm_open_elements.specs.Elements.{name_of}
use Rattle.hm_open_elements.proofs.Elements.{known_at}
use Rattle.hm_open_elements.proofs.Fronts.{closes_more, closes_no_more, yields_inside}
use Rattle.hm_open_elements.proofs.plan.left_by_start.Goals as goal

pub named-requires : goal.named-requires
named-requires c =
    known_at c.args.elements.now _ c.index-elements-left.result c.index-elements-left.is c.requires.marked (omega (arith, c.loop-left.invariant))

pub loop-left-preserved : goal.loop-left-preserved
loop-left-preserved c =
    let passes : is_closed_by_start (name_of c.index-elements-left.result.name) c.args.tag.name.now ≡ true = cc in
    closes_more (is_closed_by_start_of c.args.tag.name.now) c.args.elements.now c.loop-left.left c.index-elements-left.result c.index-elements-left.is c.requires c.loop-left.invariant passes (yields_inside (name_of c.index-elements-left.result.name) c.args.tag.name.now passes)

pub returns-clause-left : goal.returns-clause-left
returns-clause-left c =
    let passes : is_closed_by_start (name_of c.index-elements-left.result.name) c.args.tag.name.now ≡ false = cc in
    closes_no_more (is_closed_by_start_of c.args.tag.name.now) c.args.elements.now c.loop-left.left c.index-elements-left.result c.index-elements-left.is c.loop-left.invariant passes
