use Rattle.std.proofs.Common.{◌≡◌, ◌∙◌, ◌<◌, List, [], length, get_or, ap, sym, subst, arith}
use Rattle.std.proofs.lemmas.List.{length-map}
use Rattle.hm_graph.specs.Runs.{IsAt, unroll}
use Rattle.hm_graph.specs.declared.numbers.Run.{Run}
use Rattle.hm_graph.proofs.StepNumbers.{number_below, step_at}
use Rattle.hm_graph.proofs.Runs.{at_run, at_number}
use Rattle.hm_graph.proofs.graph.Graph.step.Goals as goal

pub index-requires : goal.index-requires
index-requires c =
    let runs : List Run = c.self.inside.runs.items in
    let place : IsAt runs c.args.at.run c.args.at.used c.args.at.layer = subst (λ g. IsAt g.runs c.args.at.run c.args.at.used c.args.at.layer) (sym c.self.view_is) c.requires.place in
    let inside : c.args.at.layer < length (unroll runs) = omega (arith, c.requires.inside, ap (λ g. length g.steps) c.self.view_is, length-map (unroll runs) (λ n. get_or c.self.inside.steps.items n [])) in
    omega (arith, at_run runs c.args.at.run c.args.at.used c.args.at.layer place inside, c.self.inside.runs.ok.0)

pub index-requires-2 : goal.index-requires-2
index-requires-2 c =
    let runs : List Run = c.self.inside.runs.items in
    let place : IsAt runs c.args.at.run c.args.at.used c.args.at.layer = subst (λ g. IsAt g.runs c.args.at.run c.args.at.used c.args.at.layer) (sym c.self.view_is) c.requires.place in
    let inside : c.args.at.layer < length (unroll runs) = omega (arith, c.requires.inside, ap (λ g. length g.steps) c.self.view_is, length-map (unroll runs) (λ n. get_or c.self.inside.steps.items n [])) in
    let run : c.args.at.run < length runs = at_run runs c.args.at.run c.args.at.used c.args.at.layer place inside in
    let number : c.index.result.now.number ≡ get_or (unroll runs) c.args.at.layer c.index.result.now.number =
    ap (λ r. r.number) c.index.ensures ∙ sym (at_number runs c.args.at.run c.args.at.used c.args.at.layer c.index.result.now c.index.result.now.number place run) in
    omega (arith, c.self.inside.steps.ok.0, number_below c.self.inside.steps.items (unroll runs) c.args.at.layer c.index.result.now.number c.self.invariant.0 inside number)

pub returns : goal.returns
returns c =
    let runs : List Run = c.self.inside.runs.items in
    let place : IsAt runs c.args.at.run c.args.at.used c.args.at.layer = subst (λ g. IsAt g.runs c.args.at.run c.args.at.used c.args.at.layer) (sym c.self.view_is) c.requires.place in
    let inside : c.args.at.layer < length (unroll runs) = omega (arith, c.requires.inside, ap (λ g. length g.steps) c.self.view_is, length-map (unroll runs) (λ n. get_or c.self.inside.steps.items n [])) in
    let run : c.args.at.run < length runs = at_run runs c.args.at.run c.args.at.used c.args.at.layer place inside in
    let number : c.index.result.now.number ≡ get_or (unroll runs) c.args.at.layer c.index.result.now.number =
    ap (λ r. r.number) c.index.ensures ∙ sym (at_number runs c.args.at.run c.args.at.used c.args.at.layer c.index.result.now c.index.result.now.number place run) in
    step_at c.self.inside.steps.items (unroll runs) c.args.at.layer c.index.result.now.number c.index-2.result.now c.self.invariant.0 inside number c.index-2.ensures
    ∙ ap (λ g. get_or g.steps c.args.at.layer []) c.self.view_is
