use Rattle.std.proofs.Common.{◌∷◌, [], take, Ok, refl, arith}
use Rattle.hm_base.specs.Walks.{Attribute}
use Rattle.hm_tree.specs.Views.{attributes_shown}
use Rattle.hm_graph_laws.specs.Units.{attribute_units}
use Rattle.hm_event_parts.proofs.AttributeUnits.{one_more}
use Rattle.hm_event_parts.proofs.PartsAdded.{adds_then, adds_as}
use Rattle.hm_event_parts.proofs.Sizes.{attribute_within}
use Rattle.hm_event_parts.proofs.attributes.add_attributes.Goals as goal

pub add_attribute-requires : goal.add_attribute-requires
add_attribute-requires c =
    let a : Attribute = record { name = c.at.result.0.now; value = c.at.result.1.now } in
    omega (arith, c.requires, attribute_within (attributes_shown c.args.attrs) c.loop-i.i a c.at.ensures)

pub loop-i-preserved : goal.loop-i-preserved
loop-i-preserved c =
    let a : Attribute = record { name = c.at.result.0.now; value = c.at.result.1.now } in
    adds_as _ _ _ _ _ (one_more (attributes_shown c.args.attrs) c.loop-i.i a c.at.ensures)
    (adds_then (Ok tt) (Ok tt) c.args.into.now.items c.loop-i.into.items c.add_attribute.new.into.items (attribute_units (take c.loop-i.i (attributes_shown c.args.attrs))) (attribute_units (a ∷ [])) tt refl c.loop-i.invariant c.in_ok-add_attribute.ensures)
