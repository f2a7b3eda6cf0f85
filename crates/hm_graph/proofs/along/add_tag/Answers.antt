use Rattle.std.proofs.Common.{◌∷◌, ◌++◌, []}
use Rattle.std.proofs.lemmas.Result.{on_ok_weaker}
use Rattle.hm_tree.specs.Views.{attributes_shown}
use Rattle.hm_graph_laws.specs.Units as units
use Rattle.hm_graph_laws.specs.Units.{attribute_units}
use Rattle.hm_graph.proofs.Going.{goes_then}
use Rattle.hm_graph.proofs.along.add_tag.Goals as goal

pub returns : goal.returns
returns g c =
    let C = g.V.Visitor.goes_on in
    let attributes = attribute_units (attributes_shown c.args.attrs) in
    let close = units.tag_close c.args.closes ∷ [] in
    on_ok_weaker c.add_one-2.result
    (λ goes.
    goes_then C (units.tag_name c.args.name.now ∷ []) (attributes ++ close) c.args.along.now c.add_one.new.along c.add_one-2.new.along c.in_ok-add_one.ensures
    (goes_then C attributes close c.add_one.new.along c.add_attributes.new.along c.add_one-2.new.along c.in_ok-add_attributes.ensures goes))
    c.add_one-2.ensures
