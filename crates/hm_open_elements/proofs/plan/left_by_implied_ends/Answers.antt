use Rattle.std.proofs.Common.{◌≡◌, arith, true, false, sym, ◌∙◌}
use Rattle.hm_elements.specs.Paths.{is_closed_by_end_of}
use Rattle.hm_open_elements.specs.Elements.{name_of, element_of}
use Rattle.hm_open_elements.proofs.Elements.{known_at}
use Rattle.hm_open_elements.proofs.Fronts.{closes_more, closes_no_more, falls_inside}
use Rattle.hm_open_elements.proofs.plan.left_by_implied_ends.Goals as goal

pub named-requires : goal.named-requires
named-requires c =
    known_at c.args.elements.now _ c.index-elements-left.result c.index-elements-left.is c.requires.marked (omega (arith, c.loop-left.invariant))

pub loop-left-preserved : goal.loop-left-preserved
loop-left-preserved c =
    let o = c.index-elements-left.result in
    let named : c.named.result.name.now ≡ name_of o.name = cc in
    let passes : is_closed_by_end_of c.args.name.now (element_of o) ≡ true = rw named at (sym (c.is_closed_by_end.ensures o.foreign) ∙ c.loop-left-test.true) in
    closes_more (is_closed_by_end_of c.args.name.now) c.args.elements.now c.loop-left.left o c.index-elements-left.is c.requires c.loop-left.invariant passes (falls_inside c.args.name.now (element_of o) passes)

pub returns-clause-left : goal.returns-clause-left
returns-clause-left c =
    let o = c.index-elements-left.result in
    let named : c.named.result.name.now ≡ name_of o.name = cc in
    let passes : is_closed_by_end_of c.args.name.now (element_of o) ≡ false = rw named at (sym (c.is_closed_by_end.ensures o.foreign) ∙ c.loop-left-test.false) in
    closes_no_more (is_closed_by_end_of c.args.name.now) c.args.elements.now c.loop-left.left o c.index-elements-left.is c.loop-left.invariant passes
