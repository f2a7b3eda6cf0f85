use Rattle.std.proofs.Common.{arith}
use Rattle.hm_base.specs.Walks.{Attribute}
use Rattle.hm_tree.specs.Views.{attributes_shown}
use Rattle.hm_graph_laws.specs.Units.{attribute_units}
use Rattle.hm_event_parts.proofs.Sizes.{attribute_within}
use Rattle.hm_graph.proofs.Going.{attribute_added, attributes_all, goes_none}
use Rattle.hm_graph.proofs.along.add_attributes.Goals as goal

pub loop-i-init : goal.loop-i-init
loop-i-init g c = goes_none g.V.Visitor.goes_on (attribute_units (attributes_shown c.args.attrs)) c.args.along.now

pub add_attribute-requires : goal.add_attribute-requires
add_attribute-requires g c =
    let a : Attribute = record { name = c.at.result.0.now; value = c.at.result.1.now } in
    omega (arith, c.requires, attribute_within (attributes_shown c.args.attrs) c.loop-i.i a c.at.ensures)

pub loop-i-preserved : goal.loop-i-preserved
loop-i-preserved g c =
    let a : Attribute = record { name = c.at.result.0.now; value = c.at.result.1.now } in
    attribute_added g.V.Visitor.goes_on (attributes_shown c.args.attrs) c.loop-i.i a c.args.along.now c.loop-i.along c.add_attribute.new.along c.at.ensures c.loop-i.invariant c.in_ok-add_attribute.ensures

pub returns : goal.returns
returns g c = attributes_all g.V.Visitor.goes_on (attributes_shown c.args.attrs) c.loop-i.i c.args.along.now c.loop-i.along (omega (arith, c.loop-i-test.false, c.len-i-end.ensures.len)) c.loop-i.invariant
