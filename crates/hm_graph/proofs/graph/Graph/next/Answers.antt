use Rattle.std.proofs.Common.{◌<◌, ◌≤◌, ◌+◌, List, [], length, get_or, ap, sym, subst, arith}
use Rattle.std.proofs.lemmas.List.{length-map}
use Rattle.hm_graph.specs.Runs.{IsAt, unroll}
use Rattle.hm_graph.specs.declared.numbers.Run.{Run}
use Rattle.hm_graph.proofs.Runs.{at_run, next_in, next_out, used_least}
use Rattle.hm_graph.proofs.graph.Graph.next.Goals as goal

pub index-requires : goal.index-requires
index-requires c =
    let runs : List Run = c.self.inside.runs.items in
    let place : IsAt runs c.args.at.run c.args.at.used c.args.at.layer = subst (λ g. IsAt g.runs c.args.at.run c.args.at.used c.args.at.layer) (sym c.self.view_is) c.requires.place in
    let inside : c.args.at.layer < length (unroll runs) = omega (arith, c.requires.inside, ap (λ g. length g.steps) c.self.view_is, length-map (unroll runs) (λ n. get_or c.self.inside.steps.items n [])) in
    let run : c.args.at.run < length runs = at_run runs c.args.at.run c.args.at.used c.args.at.layer place inside in
    omega (arith, run, c.self.inside.runs.ok.0)

pub overflow_add-layer : goal.overflow_add-layer
overflow_add-layer c =
    let runs : List Run = c.self.inside.runs.items in
    let place : IsAt runs c.args.at.run c.args.at.used c.args.at.layer = subst (λ g. IsAt g.runs c.args.at.run c.args.at.used c.args.at.layer) (sym c.self.view_is) c.requires.place in
    let inside : c.args.at.layer < length (unroll runs) = omega (arith, c.requires.inside, ap (λ g. length g.steps) c.self.view_is, length-map (unroll runs) (λ n. get_or c.self.inside.steps.items n [])) in
    let run : c.args.at.run < length runs = at_run runs c.args.at.run c.args.at.used c.args.at.layer place inside in
    omega (arith, inside, c.self.invariant.2, c.self.invariant.3)

pub overflow_add-used : goal.overflow_add-used
overflow_add-used c =
    let runs : List Run = c.self.inside.runs.items in
    let place : IsAt runs c.args.at.run c.args.at.used c.args.at.layer = subst (λ g. IsAt g.runs c.args.at.run c.args.at.used c.args.at.layer) (sym c.self.view_is) c.requires.place in
    let inside : c.args.at.layer < length (unroll runs) = omega (arith, c.requires.inside, ap (λ g. length g.steps) c.self.view_is, length-map (unroll runs) (λ n. get_or c.self.inside.steps.items n [])) in
    let run : c.args.at.run < length runs = at_run runs c.args.at.run c.args.at.used c.args.at.layer place inside in
    omega (arith, inside, c.self.invariant.2, c.self.invariant.3, used_least runs c.args.at.run c.args.at.used c.args.at.layer place)

pub returns-then-used-count-clause-place : goal.returns-then-used-count-clause-place
returns-then-used-count-clause-place c =
    let runs : List Run = c.self.inside.runs.items in
    let place : IsAt runs c.args.at.run c.args.at.used c.args.at.layer = subst (λ g. IsAt g.runs c.args.at.run c.args.at.used c.args.at.layer) (sym c.self.view_is) c.requires.place in
    let inside : c.args.at.layer < length (unroll runs) = omega (arith, c.requires.inside, ap (λ g. length g.steps) c.self.view_is, length-map (unroll runs) (λ n. get_or c.self.inside.steps.items n [])) in
    let run : c.args.at.run < length runs = at_run runs c.args.at.run c.args.at.used c.args.at.layer place inside in
    let more : c.args.at.used + 1 < (get_or runs c.args.at.run c.index.result.now).count = subst (λ r. c.args.at.used + 1 < r.count) c.index.ensures c.if-used-count.true in
    subst (λ g. IsAt g.runs c.args.at.run (c.args.at.used + 1) (c.args.at.layer + 1)) c.self.view_is (next_in runs c.args.at.run c.args.at.used c.args.at.layer c.index.result.now place more run)

pub overflow_add-result : goal.overflow_add-result
overflow_add-result c =
    let runs : List Run = c.self.inside.runs.items in
    let place : IsAt runs c.args.at.run c.args.at.used c.args.at.layer = subst (λ g. IsAt g.runs c.args.at.run c.args.at.used c.args.at.layer) (sym c.self.view_is) c.requires.place in
    let inside : c.args.at.layer < length (unroll runs) = omega (arith, c.requires.inside, ap (λ g. length g.steps) c.self.view_is, length-map (unroll runs) (λ n. get_or c.self.inside.steps.items n [])) in
    let run : c.args.at.run < length runs = at_run runs c.args.at.run c.args.at.used c.args.at.layer place inside in
    omega (arith, run, c.self.inside.runs.ok.0)

pub returns-clause-place : goal.returns-clause-place
returns-clause-place c =
    let runs : List Run = c.self.inside.runs.items in
    let place : IsAt runs c.args.at.run c.args.at.used c.args.at.layer = subst (λ g. IsAt g.runs c.args.at.run c.args.at.used c.args.at.layer) (sym c.self.view_is) c.requires.place in
    let inside : c.args.at.layer < length (unroll runs) = omega (arith, c.requires.inside, ap (λ g. length g.steps) c.self.view_is, length-map (unroll runs) (λ n. get_or c.self.inside.steps.items n [])) in
    let run : c.args.at.run < length runs = at_run runs c.args.at.run c.args.at.used c.args.at.layer place inside in
    let last : (get_or runs c.args.at.run c.index.result.now).count ≤ c.args.at.used + 1 = subst (λ r. r.count ≤ c.args.at.used + 1) c.index.ensures c.if-used-count.false in
    subst (λ g. IsAt g.runs (c.args.at.run + 1) 0 (c.args.at.layer + 1)) c.self.view_is (next_out runs c.args.at.run c.args.at.used c.args.at.layer c.index.result.now c.self.invariant.4 place last run)
