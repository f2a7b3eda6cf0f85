use Rattle.std.proofs.Common.{◌≡◌, ◌<◌, ◌≤◌, List, [], length, get_or, ap, sym, subst, arith}
use Rattle.std.proofs.lemmas.List.{length-map}
use Rattle.hm_graph.specs.Runs.{IsAt, unroll}
use Rattle.hm_graph.specs.declared.numbers.Run.{Run}
use Rattle.hm_graph.proofs.Runs.{back_many, same_step, used_least}
use Rattle.hm_graph.proofs.graph.Graph.back_alike.Goals as goal

pub overflow_sub-result : goal.overflow_sub-result
overflow_sub-result c = omega (arith, c.min-count.ensures)

pub overflow_sub-result-2 : goal.overflow_sub-result-2
overflow_sub-result-2 c = omega (arith, c.min-count.ensures, used_least c.args.self.now.runs c.args.at.run c.args.at.used c.args.at.layer c.requires.place)

pub returns-clause-place : goal.returns-clause-place
returns-clause-place c = back_many c.args.self.now.runs c.args.at.run c.args.at.used c.args.at.layer c.min-count.result c.requires.place (omega (arith, c.min-count.ensures))

pub returns-clause-layer : goal.returns-clause-layer
returns-clause-layer c =
    let least : c.args.at.used ≤ c.args.at.layer = used_least c.args.self.now.runs c.args.at.run c.args.at.used c.args.at.layer c.requires.place in
    (omega arith, omega (arith, c.min-count.ensures, least))

pub returns-clause-alike : goal.returns-clause-alike
returns-clause-alike c = λ k low high.
    let runs : List Run = c.self.inside.runs.items in
    let place : IsAt runs c.args.at.run c.args.at.used c.args.at.layer = subst (λ g. IsAt g.runs c.args.at.run c.args.at.used c.args.at.layer) (sym c.self.view_is) c.requires.place in
    let inside : c.args.at.layer < length (unroll runs) = omega (arith, c.requires.inside, ap (λ g. length g.steps) c.self.view_is, length-map (unroll runs) (λ n. get_or c.self.inside.steps.items n [])) in
    let least : c.args.at.used ≤ c.args.at.layer = used_least runs c.args.at.run c.args.at.used c.args.at.layer place in
    subst (λ g. get_or g.steps k [] ≡ get_or g.steps c.args.at.layer []) c.self.view_is
    (same_step c.self.inside.steps.items runs c.args.at.run c.args.at.used c.args.at.layer k (record { number = 0; count = 0 }) place inside (omega arith) (omega (arith, c.min-count.ensures, least, low)))
