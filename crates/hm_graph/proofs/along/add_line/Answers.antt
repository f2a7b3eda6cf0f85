use Rattle.std.proofs.Common.{◌∷◌, [], chars, codes}
use Rattle.std.proofs.lemmas.Result.{on_ok_weaker}
use Rattle.hm_edges.specs.Units.{kind_of}
use Rattle.hm_graph_laws.specs.Units as units
use Rattle.hm_graph_laws.specs.Units.{character_units}
use Rattle.hm_graph.proofs.Going.{goes_then}
use Rattle.hm_graph.proofs.along.add_line.Goals as goal

pub returns : goal.returns
returns g c =
    on_ok_weaker c.add_characters.result
    (λ goes.
    goes_then g.V.Visitor.goes_on (units.fixed (codes "\n") ∷ []) (character_units (kind_of c.args.kind) (chars c.args.text.now)) c.args.along.now c.add_one.new.along c.add_characters.new.along c.in_ok-add_one.ensures goes)
    c.add_characters.ensures
