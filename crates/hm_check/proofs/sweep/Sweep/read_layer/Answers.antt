use Rattle.std.proofs.Common.{◌≡◌, ◌+◌, ◌-◌, ◌^◌, ◌≤◌, ℕ, List, [], false, get_or, map, ap, sym, subst, ◌∙◌, arith}
use Rattle.hm_cert.specs.Layout.{told}
use Rattle.hm_graph.specs.Graphs.{IsLowStep}
use Rattle.hm_graph.specs.Prices.{is_left_out}
use Rattle.hm_cert.specs.Rows.{AreBelow}
use Rattle.hm_check.specs.Sweeps.{judged}
use Rattle.hm_check.specs.declared.sweep.Sweep.{Sweep}
use Rattle.hm_graph.proofs.Low.{low_step}
use Rattle.hm_check.proofs.Sweeping.{has_front, swept_below, in_swept}
use Rattle.hm_check.proofs.sweep.Sweep.read_layer.Goals as goal

pub row_before-requires-clause-some : goal.row_before-requires-clause-some
row_before-requires-clause-some c =
    let kept : is_left_out c.args.graph.now.source.format c.args.k (get_or c.args.graph.now.steps c.args.k []) ≡ false = sym (ap (is_left_out c.args.graph.now.source.format c.args.k) c.requires.step) ∙ c.requires.kept in
    let some : 1 ≤ c.args.self.now.at.row = has_front c.args.graph.now c.args.prices.now c.args.k c.args.self.now.at.row c.requires.place c.requires.layer kept c.requires.swept.written in
    omega (arith, some)

pub judge_over-requires-clause-below : goal.judge_over-requires-clause-below
judge_over-requires-clause-below c = λ right.
    let below : AreBelow (2 ^ 63 + 2 ^ 62) (map told c.args.self.now.next_row.items) = swept_below c.args.graph.now c.args.prices.now (c.args.k + 1) c.args.self.now c.every_graph.ensures.few c.requires.swept right in
    let same : c.args.self.now.next_row.items ≡ c.as_slice-2.result.now = sym c.as_slice-2.ensures.value in
    subst (λ (items : List ℕ). AreBelow (2 ^ 63 + 2 ^ 62) (map told items)) same below

pub judge_over-requires-clause-low : goal.judge_over-requires-clause-low
judge_over-requires-clause-low c = subst IsLowStep (sym c.requires.step) (low_step c.args.graph.now.steps c.args.k c.every_graph.ensures.graph.low)

pub returns : goal.returns
returns c =
    let kept : is_left_out c.args.graph.now.source.format c.args.k (get_or c.args.graph.now.steps c.args.k []) ≡ false = sym (ap (is_left_out c.args.graph.now.source.format c.args.k) c.requires.step) ∙ c.requires.kept in
    let after : Sweep = record { at = c.row_before.new.place; next_row = c.swap.new.x; found = c.judge_over.new.found; spare = c.swap.new.y } in
    let front : c.args.self.now.at.row - 1 ≡ c.row_before.new.place.row = omega (arith, c.in_ok-row_before.ensures.before) in
    let row : map told c.row_before.new.into.items ≡ get_or c.args.prices.now c.row_before.new.place.row [] = c.in_ok-row_before.ensures.row ∙ ap (λ n. get_or c.args.prices.now n []) front in
    let read : map told c.as_slice.result.now ≡ get_or c.args.prices.now c.row_before.new.place.row [] = ap (map told) c.as_slice.ensures.value ∙ row in
    let next_row : map told c.as_slice-2.result.now ≡ map told c.args.self.now.next_row.items = ap (map told) c.as_slice-2.ensures.value in
    in_swept c.args.graph.now c.args.prices.now c.args.k c.args.self.now after c.requires.place c.requires.layer kept c.requires.swept c.in_ok-row_before.ensures.place c.in_ok-row_before.ensures.before
    (ap (λ v. map told v.items) c.swap.ensures.x_after ∙ row)
    (c.judge_over.ensures ∙ (λ i. judged c.args.self.now.found c.args.k (read i) (next_row i) (c.requires.step i)))
