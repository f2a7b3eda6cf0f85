use Rattle.std.proofs.Common.{◌≡◌, ◌∙◌, ◌∷◌, []}
use Rattle.hm_graph.proofs.Going.{adds_by, by_table, goes_one, low_by, named_by}
use Rattle.hm_graph.proofs.along.add.Goals as goal

pub take-requires : goal.take-requires
take-requires g c = record {
  named = named_by c.table.result.now c.add.new.self c.in_ok-number.number c.step.result.now c.table.ensures c.step.ensures c.in_ok-number.ensures.step;
  low = low_by c.add.new.self c.in_ok-number.number c.step.result.now c.step.ensures c.in_ok-number.ensures.step;
}

pub returns : goal.returns
returns g c = λ u stands is.
    let C = g.V.Visitor.goes_on in
    let adds = adds_by c.args.along.now.graph c.add.new.self (u ∷ []) c.in_ok-number.number c.step.result.now c.step.ensures (c.in_ok-number.ensures.adds u stands) in
    let same : c.table.result.now ≡ c.args.along.now.graph.table = c.table.ensures ∙ adds.table in
    goes_one C u c.step.result.now c.args.along.now (record { graph = c.add.new.self; by = c.take.new.self }) adds
    (λ end more steps. by_table (C end) c.args.along.now.graph.table c.table.result.now more (u ∷ more) steps (c.step.result.now ∷ steps) c.take.new.self c.args.along.now.by same (c.in_ok-take.ensures end u more steps is))
