use Rattle.std.proofs.Common.{chars}
use Rattle.std.proofs.lemmas.Result.{IfOk-weaker}
use Rattle.hm_edges.specs.Units.{kind_of}
use Rattle.hm_graph.specs.Going.{GoesOver}
use Rattle.hm_graph_laws.specs.Units.{character_units}
use Rattle.hm_graph.proofs.Going.{goes_on}
use Rattle.hm_graph.proofs.along.add_some.Goals as goal

pub returns-clause-goes : goal.returns-clause-goes
returns-clause-goes g c =
    let C = g.V.Visitor.goes_on in
    let kind = kind_of c.args.kind in
    IfOk-weaker c.add_first.result (λ rest. GoesOver C kind (chars c.in_ok-rest.rest.now) (chars rest.now) c.add_alike.new.along c.add_first.new.along) (λ rest. GoesOver C kind (chars c.args.text.now) (chars rest.now) c.args.along.now c.add_first.new.along)
    (λ rest more. goes_on C (character_units kind (chars c.args.text.now)) (character_units kind (chars c.in_ok-rest.rest.now)) (character_units kind (chars rest.now)) c.args.along.now c.add_alike.new.along c.add_first.new.along c.in_ok-rest.ensures.goes more)
    c.add_first.ensures.goes
