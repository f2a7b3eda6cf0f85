use Rattle.std.proofs.Common.{◌<◌, ◌≤◌, ◌∙◌, [], length, map, ap, sym, subst, arith}
use Rattle.std.proofs.lemmas.List.{take_all}
use Rattle.hm_cert.specs.Layout.{told}
use Rattle.hm_graph.specs.Prices.{best_price, row_over}
use Rattle.hm_shortest.proofs.Rows.{made_more}
use Rattle.hm_graph.proofs.Low.{low_hops}
use Rattle.hm_graph.specs.Graphs.{AreLowHops}
use Rattle.hm_shortest.proofs.stretches.row_before.Goals as goal

pub find_best-requires-clause-low : goal.find_best-requires-clause-low
find_best-requires-clause-low c = subst AreLowHops (sym c.hops.ensures) (low_hops c.args.step.now c.loop-place.place c.requires.low)

pub loop-place-preserved : goal.loop-place-preserved
loop-place-preserved c =
    let l = c.loop-place in
    let next_row = map told c.args.next_row.now in
    let inside : l.place < length c.args.step.now = omega (arith, c.loop-place-test.true) in
    made_more told (best_price next_row) l.row.items _ c.find_best.result.price c.args.step.now l.place [] inside l.invariant c.in_ok-push.ensures.items (c.find_best.ensures.price ∙ ap (best_price next_row) c.hops.ensures)

pub returns : goal.returns
returns c =
    let past : length c.args.step.now ≤ c.loop-place.place = omega (arith, c.loop-place-test.false) in
    c.loop-place.invariant ∙ ap (row_over (map told c.args.next_row.now)) (take_all c.loop-place.place c.args.step.now past)
