use Rattle.std.proofs.Common.{◌≡◌, ◌<◌, ◌+◌, ◌-◌, List, [], length, get_or, ap, sym, subst, arith}
use Rattle.std.proofs.lemmas.List.{length-map}
use Rattle.hm_graph.specs.Runs.{IsAt, unroll}
use Rattle.hm_graph.specs.declared.numbers.Run.{Run}
use Rattle.hm_graph.proofs.Runs.{at_run, at_used, next_all, next_many, same_later}
use Rattle.hm_graph.proofs.graph.Graph.next_alike.Goals as goal

pub index-requires : goal.index-requires
index-requires c =
    let runs : List Run = c.self.inside.runs.items in
    let place : IsAt runs c.args.at.run c.args.at.used c.args.at.layer = subst (λ g. IsAt g.runs c.args.at.run c.args.at.used c.args.at.layer) (sym c.self.view_is) c.requires.place in
    let inside : c.args.at.layer < length (unroll runs) = omega (arith, c.requires.inside, ap (λ g. length g.steps) c.self.view_is, length-map (unroll runs) (λ n. get_or c.self.inside.steps.items n [])) in
    let run : c.args.at.run < length runs = at_run runs c.args.at.run c.args.at.used c.args.at.layer place inside in
    omega (arith, run, c.self.inside.runs.ok.0)

pub overflow_sub-left : goal.overflow_sub-left
overflow_sub-left c =
    let runs : List Run = c.self.inside.runs.items in
    let place : IsAt runs c.args.at.run c.args.at.used c.args.at.layer = subst (λ g. IsAt g.runs c.args.at.run c.args.at.used c.args.at.layer) (sym c.self.view_is) c.requires.place in
    let inside : c.args.at.layer < length (unroll runs) = omega (arith, c.requires.inside, ap (λ g. length g.steps) c.self.view_is, length-map (unroll runs) (λ n. get_or c.self.inside.steps.items n [])) in
    let run : c.args.at.run < length runs = at_run runs c.args.at.run c.args.at.used c.args.at.layer place inside in
    let count : c.index.result.now.count ≡ (get_or runs c.args.at.run c.index.result.now).count = ap (λ r. r.count) c.index.ensures in
    omega (arith, count, at_used runs c.args.at.run c.args.at.used c.args.at.layer c.index.result.now place run)

pub returns-then-limit-left-clause-place : goal.returns-then-limit-left-clause-place
returns-then-limit-left-clause-place c =
    let runs : List Run = c.self.inside.runs.items in
    let place : IsAt runs c.args.at.run c.args.at.used c.args.at.layer = subst (λ g. IsAt g.runs c.args.at.run c.args.at.used c.args.at.layer) (sym c.self.view_is) c.requires.place in
    let inside : c.args.at.layer < length (unroll runs) = omega (arith, c.requires.inside, ap (λ g. length g.steps) c.self.view_is, length-map (unroll runs) (λ n. get_or c.self.inside.steps.items n [])) in
    let run : c.args.at.run < length runs = at_run runs c.args.at.run c.args.at.used c.args.at.layer place inside in
    let count : c.index.result.now.count ≡ (get_or runs c.args.at.run c.index.result.now).count = ap (λ r. r.count) c.index.ensures in
    subst (λ g. IsAt g.runs c.args.at.run (c.args.at.used + c.args.limit) (c.args.at.layer + c.args.limit)) c.self.view_is
    (next_many runs c.args.at.run c.args.at.used c.args.at.layer c.args.limit c.index.result.now place (omega (arith, count, c.if-limit-left.true)) run)

pub returns-then-limit-left-clause-alike : goal.returns-then-limit-left-clause-alike
returns-then-limit-left-clause-alike c = λ k low high.
    let runs : List Run = c.self.inside.runs.items in
    let place : IsAt runs c.args.at.run c.args.at.used c.args.at.layer = subst (λ g. IsAt g.runs c.args.at.run c.args.at.used c.args.at.layer) (sym c.self.view_is) c.requires.place in
    let inside : c.args.at.layer < length (unroll runs) = omega (arith, c.requires.inside, ap (λ g. length g.steps) c.self.view_is, length-map (unroll runs) (λ n. get_or c.self.inside.steps.items n [])) in
    let run : c.args.at.run < length runs = at_run runs c.args.at.run c.args.at.used c.args.at.layer place inside in
    let count : c.index.result.now.count ≡ (get_or runs c.args.at.run c.index.result.now).count = ap (λ r. r.count) c.index.ensures in
    subst (λ g. get_or g.steps k [] ≡ get_or g.steps c.args.at.layer []) c.self.view_is
    (same_later c.self.inside.steps.items runs c.args.at.run c.args.at.used c.args.at.layer k c.index.result.now place run low (omega (arith, high, count, c.if-limit-left.true)))

pub overflow_add-result-2 : goal.overflow_add-result-2
overflow_add-result-2 c =
    let runs : List Run = c.self.inside.runs.items in
    let place : IsAt runs c.args.at.run c.args.at.used c.args.at.layer = subst (λ g. IsAt g.runs c.args.at.run c.args.at.used c.args.at.layer) (sym c.self.view_is) c.requires.place in
    let inside : c.args.at.layer < length (unroll runs) = omega (arith, c.requires.inside, ap (λ g. length g.steps) c.self.view_is, length-map (unroll runs) (λ n. get_or c.self.inside.steps.items n [])) in
    let run : c.args.at.run < length runs = at_run runs c.args.at.run c.args.at.used c.args.at.layer place inside in
    omega (arith, run, c.self.inside.runs.ok.0)

pub returns-clause-place : goal.returns-clause-place
returns-clause-place c =
    let runs : List Run = c.self.inside.runs.items in
    let place : IsAt runs c.args.at.run c.args.at.used c.args.at.layer = subst (λ g. IsAt g.runs c.args.at.run c.args.at.used c.args.at.layer) (sym c.self.view_is) c.requires.place in
    let inside : c.args.at.layer < length (unroll runs) = omega (arith, c.requires.inside, ap (λ g. length g.steps) c.self.view_is, length-map (unroll runs) (λ n. get_or c.self.inside.steps.items n [])) in
    let run : c.args.at.run < length runs = at_run runs c.args.at.run c.args.at.used c.args.at.layer place inside in
    subst (λ g. IsAt g.runs (c.args.at.run + 1) 0 (c.args.at.layer + (c.index.result.now.count - c.args.at.used))) c.self.view_is
    (subst (λ r. IsAt runs (c.args.at.run + 1) 0 (c.args.at.layer + (r.count - c.args.at.used))) (sym c.index.ensures) (next_all runs c.args.at.run c.args.at.used c.args.at.layer c.index.result.now c.self.invariant.4 place run))

pub returns-clause-alike : goal.returns-clause-alike
returns-clause-alike c = λ k low high.
    let runs : List Run = c.self.inside.runs.items in
    let place : IsAt runs c.args.at.run c.args.at.used c.args.at.layer = subst (λ g. IsAt g.runs c.args.at.run c.args.at.used c.args.at.layer) (sym c.self.view_is) c.requires.place in
    let inside : c.args.at.layer < length (unroll runs) = omega (arith, c.requires.inside, ap (λ g. length g.steps) c.self.view_is, length-map (unroll runs) (λ n. get_or c.self.inside.steps.items n [])) in
    let run : c.args.at.run < length runs = at_run runs c.args.at.run c.args.at.used c.args.at.layer place inside in
    let count : c.index.result.now.count ≡ (get_or runs c.args.at.run c.index.result.now).count = ap (λ r. r.count) c.index.ensures in
    subst (λ g. get_or g.steps k [] ≡ get_or g.steps c.args.at.layer []) c.self.view_is
    (same_later c.self.inside.steps.items runs c.args.at.run c.args.at.used c.args.at.layer k c.index.result.now place run low (omega (arith, high, count)))
