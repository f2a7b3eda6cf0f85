use Rattle.std.proofs.Common.{◌≡◌, ◌∙◌, ◌<◌, ◌+◌, ℕ, cond, get_or, length, ap, sym, subst, arith}
use Rattle.hm_graph.specs.Graphs.{AreNumbers}
use Rattle.hm_graph.specs.Kept.{kept_count}
use Rattle.hm_graph.specs.Runs.{AreRuns, unroll}
use Rattle.hm_graph.proofs.Counts.{RunsCounted, all_counted, counted_within, no_run, run_number, run_passed, runs_count}
use Rattle.hm_graph.proofs.graph.Graph.count_kept.Goals.{then-not-is_left_out, else-not-is_left_out}
use Rattle.hm_graph.proofs.graph.Graph.count_kept.Goals as goal

pub index-requires : goal.index-requires
index-requires c =
    let same = sym c.deref-run-items.ensures.value in
    omega (arith, c.self.inside.steps.ok.0, run_number c.self.inside.steps.items c.deref-run-items.result.now c.loop-run.run-index (subst AreRuns same c.self.invariant.4) (subst (λ runs. AreNumbers c.self.inside.steps.items (unroll runs)) same c.self.invariant.0) c.loop-run-test.true)

pub overflow_add-count : goal.overflow_add-count
overflow_add-count c =
    let steps = c.self.inside.steps.items in
    let runs = c.deref-run-items.result.now in
    let n : ℕ = c.loop-run.run-index in
    let count : ℕ = c.loop-run.count in
    let same = sym c.deref-run-items.ensures.value in
    let there : (get_or runs n no_run).number < length steps = run_number steps runs n (subst AreRuns same c.self.invariant.4) (subst (λ runs. AreNumbers steps (unroll runs)) same c.self.invariant.0) c.loop-run-test.true in
    let more : ℕ = count + (get_or runs n no_run).count in
    let passed : RunsCounted c.self.inside.format steps runs (n + 1) more = run_passed c.self.inside.format steps runs n c.index.result.now count more c.loop-run-test.true there c.index.ensures (ap (λ b. count + cond b 0 (get_or runs n no_run).count) c.if-not-is_left_out.ensures) c.loop-run.invariant in
    let few : length (unroll runs) ≡ length (unroll c.self.inside.runs.items) = ap (λ runs. length (unroll runs)) c.deref-run-items.ensures.value in
    omega (arith, counted_within c.self.inside.format steps runs (n + 1) more passed, few, c.self.invariant.2, c.self.invariant.3)

pub loop-run-preserved : goal.loop-run-preserved
loop-run-preserved c =
    let steps = c.self.inside.steps.items in
    let runs = c.deref-run-items.result.now in
    let n : ℕ = c.loop-run.run-index in
    let count : ℕ = c.loop-run.count in
    let same = sym c.deref-run-items.ensures.value in
    let there : (get_or runs n no_run).number < length steps = run_number steps runs n (subst AreRuns same c.self.invariant.4) (subst (λ runs. AreNumbers steps (unroll runs)) same c.self.invariant.0) c.loop-run-test.true in
    elim c.if-not-is_left_out.branch [
      | then-not-is_left_out w ↦ run_passed c.self.inside.format steps runs n c.index.result.now count c.if-not-is_left_out.count c.loop-run-test.true there c.index.ensures (w.count-is ∙ ap (λ b. count + cond b 0 (get_or runs n no_run).count) w.if-not-is_left_out.ensures)
          c.loop-run.invariant
      | else-not-is_left_out w ↦ let none : count ≡ count + 0 = omega arith in
          run_passed c.self.inside.format steps runs n c.index.result.now count c.if-not-is_left_out.count c.loop-run-test.true there c.index.ensures (w.count-is ∙ none ∙ ap (λ b. count + cond b 0 (get_or runs n no_run).count) w.if-not-is_left_out.ensures)
          c.loop-run.invariant
    ]

pub returns : goal.returns
returns c =
    all_counted c.self.inside.format c.self.inside.steps.items c.deref-run-items.result.now c.loop-run.run-index c.loop-run.count c.loop-run-test.false c.loop-run.invariant
    ∙ ap (runs_count c.self.inside.format c.self.inside.steps.items) c.deref-run-items.ensures.value ∙ ap (λ g. kept_count g.source.format g.steps) c.self.view_is
