use Rattle.std.proofs.Common.{◌≡◌, ◌+◌, ◌-◌, [], length, get_or, map, ap, ◌∙◌, arith}
use Rattle.hm_cert.specs.Layout.{told}
use Rattle.hm_check.specs.Sweeps.{judged_at_end}
use Rattle.hm_check.proofs.Counting.{some_counted}
use Rattle.hm_check.proofs.Sweeping.{end_swept}
use Rattle.hm_check.proofs.sweep.Sweep.at_end.Goals as goal

pub row_before-requires-clause-some : goal.row_before-requires-clause-some
row_before-requires-clause-some c = omega (arith, c.end-at.ensures.row, c.requires.count, some_counted c.args.graph.now.source.format 0 c.args.graph.now.steps)

pub returns : goal.returns
returns c =
    let last : c.end-at.result.row - 1 ≡ c.row_before.new.place.row = omega (arith, c.in_ok-row_before.ensures.before) in
    let all : c.row_before.new.place.row + 1 ≡ length c.args.prices.now = c.in_ok-row_before.ensures.before ∙ c.end-at.ensures.row in
    let row : map told c.row_before.new.into.items ≡ get_or c.args.prices.now c.row_before.new.place.row [] = c.in_ok-row_before.ensures.row ∙ ap (λ n. get_or c.args.prices.now n []) last in
    let read : map told c.as_slice.result.now ≡ get_or c.args.prices.now c.row_before.new.place.row [] = ap (map told) c.as_slice.ensures.value ∙ row in
    end_swept c.args.graph.now c.args.prices.now _ c.requires c.in_ok-row_before.ensures.place all row (c.judge_at_end-found.ensures ∙ (λ i. judged_at_end (c.len.ensures i) (read i) (c.last.ensures i)))
