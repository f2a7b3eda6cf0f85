use Rattle.std.proofs.Common.{chars, refl}
use Rattle.std.proofs.lemmas.Result.{on_ok_weaker}
use Rattle.hm_edges.specs.Units as edges
use Rattle.hm_graph_laws.specs.Units as units
use Rattle.hm_graph.proofs.along.add_opening.Goals as goal

pub returns : goal.returns
returns g c =
    on_ok_weaker c.add.result
    (λ goes. goes (units.attribute_name c.args.name.now (chars c.args.value.now)) (edges.attribute_name c.args.name.now (chars c.args.value.now) _ _ refl c.needs_of.ensures) refl)
    c.add.ensures
