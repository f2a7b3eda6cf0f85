use Rattle.std.proofs.Common.{◌≡◌, ◌<◌, ◌≤◌, ◌-◌, List, length, get_or, sym, subst, arith}
use Rattle.hm_graph.specs.Runs.{IsAt}
use Rattle.hm_graph.specs.declared.numbers.Run.{Run}
use Rattle.hm_graph.proofs.Runs.{back_in, back_out, run_before, run_within, count_some}
use Rattle.hm_graph.proofs.graph.Graph.back.Goals as goal

pub returns-then-at-gt0-clause-place : goal.returns-then-at-gt0-clause-place
returns-then-at-gt0-clause-place c = back_in c.args.self.now.runs c.args.at.run c.args.at.used c.args.at.layer c.requires.place (omega (arith, c.if-at-gt0.true))

pub overflow_sub-run : goal.overflow_sub-run
overflow_sub-run c =
    let runs : List Run = c.self.inside.runs.items in
    let place : IsAt runs c.args.at.run c.args.at.used c.args.at.layer = subst (λ g. IsAt g.runs c.args.at.run c.args.at.used c.args.at.layer) (sym c.self.view_is) c.requires.place in
    let none : c.args.at.used ≡ 0 = omega (arith, c.if-at-gt0.false) in
    let front : IsAt runs c.args.at.run 0 c.args.at.layer = subst (λ n. IsAt runs c.args.at.run n c.args.at.layer) none place in
    omega (arith, run_before runs c.args.at.run c.args.at.layer front c.requires.some)

pub index-requires : goal.index-requires
index-requires c =
    let runs : List Run = c.self.inside.runs.items in
    let place : IsAt runs c.args.at.run c.args.at.used c.args.at.layer = subst (λ g. IsAt g.runs c.args.at.run c.args.at.used c.args.at.layer) (sym c.self.view_is) c.requires.place in
    let none : c.args.at.used ≡ 0 = omega (arith, c.if-at-gt0.false) in
    let front : IsAt runs c.args.at.run 0 c.args.at.layer = subst (λ n. IsAt runs c.args.at.run n c.args.at.layer) none place in
    omega (arith, run_before runs c.args.at.run c.args.at.layer front c.requires.some, run_within runs c.args.at.run c.args.at.used c.args.at.layer place, c.self.inside.runs.ok.0)

pub overflow_sub-result-2 : goal.overflow_sub-result-2
overflow_sub-result-2 c =
    let runs : List Run = c.self.inside.runs.items in
    let place : IsAt runs c.args.at.run c.args.at.used c.args.at.layer = subst (λ g. IsAt g.runs c.args.at.run c.args.at.used c.args.at.layer) (sym c.self.view_is) c.requires.place in
    let none : c.args.at.used ≡ 0 = omega (arith, c.if-at-gt0.false) in
    let front : IsAt runs c.args.at.run 0 c.args.at.layer = subst (λ n. IsAt runs c.args.at.run n c.args.at.layer) none place in
    let some : 0 < c.args.at.run = run_before runs c.args.at.run c.args.at.layer front c.requires.some in
    let within : c.args.at.run ≤ length runs = run_within runs c.args.at.run c.args.at.used c.args.at.layer place in
    let run : 0 < (get_or runs (c.args.at.run - 1) c.index.result.now).count = count_some runs (c.args.at.run - 1) c.index.result.now c.self.invariant.4 (omega arith) in
    subst (λ r. 1 ≤ r.count) (sym c.index.ensures) (omega (arith, run))

pub returns-clause-place : goal.returns-clause-place
returns-clause-place c =
    let runs : List Run = c.self.inside.runs.items in
    let place : IsAt runs c.args.at.run c.args.at.used c.args.at.layer = subst (λ g. IsAt g.runs c.args.at.run c.args.at.used c.args.at.layer) (sym c.self.view_is) c.requires.place in
    let none : c.args.at.used ≡ 0 = omega (arith, c.if-at-gt0.false) in
    let front : IsAt runs c.args.at.run 0 c.args.at.layer = subst (λ n. IsAt runs c.args.at.run n c.args.at.layer) none place in
    let back : IsAt runs (c.args.at.run - 1) ((get_or runs (c.args.at.run - 1) c.index.result.now).count - 1) (c.args.at.layer - 1) =
    back_out runs c.args.at.run c.args.at.layer c.index.result.now c.self.invariant.4 front c.requires.some in
    subst (λ g. IsAt g.runs (c.args.at.run - 1) (c.index.result.now.count - 1) (c.args.at.layer - 1)) c.self.view_is (subst (λ r. IsAt runs (c.args.at.run - 1) (r.count - 1) (c.args.at.layer - 1)) (sym c.index.ensures) back)
