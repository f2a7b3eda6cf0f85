use Rattle.std.proofs.Common.{◌≡◌, ◌∙◌, ◌<◌, ◌≤◌, ◌^◌, [], length, map, ap, sym, subst, arith}
use Rattle.std.proofs.lemmas.List.{take_all}
use Rattle.hm_cert.specs.Layout.{told}
use Rattle.hm_graph.specs.Prices.{best_price, row_over}
use Rattle.hm_shortest.proofs.Rows.{made_more, only_best}
use Rattle.hm_graph.specs.Graphs.{AreLowHops}
use Rattle.hm_shortest.proofs.Forced.{forced_one}
use Rattle.hm_graph.proofs.Low.{low_hops}
use Rattle.hm_shortest.proofs.Prices.{low_hop}
use Rattle.hm_shortest.proofs.plans.follow_each.Goals as goal

pub price_over-requires-clause-low : goal.price_over-requires-clause-low
price_over-requires-clause-low c =
    let within : c.loop-place.place < length c.args.step.now = omega (arith, c.loop-place-test.true) in
    let one : length c.hops.result.now ≡ 1 = ap length c.hops.ensures ∙ forced_one c.args.step.now c.loop-place.place c.requires.forced within in
    let low : c.index-hops-0.result.len < 2 ^ 33 =
    low_hop c.hops.result.now 0 c.index-hops-0.result (subst AreLowHops (sym c.hops.ensures) (low_hops c.args.step.now c.loop-place.place c.requires.low)) (omega (arith, one)) c.index-hops-0.is in
    omega (arith, low)

pub loop-place-preserved : goal.loop-place-preserved
loop-place-preserved c =
    let l = c.loop-place in
    let next_row = map told c.args.next_row.now in
    let hop = c.index-hops-0.result in
    let inside : l.place < length c.args.step.now = omega (arith, c.loop-place-test.true) in
    let one : length c.hops.result.now ≡ 1 = ap length c.hops.ensures ∙ forced_one c.args.step.now l.place c.requires.forced inside in
    made_more told (best_price next_row) l.row.items _ c.price_over.result c.args.step.now l.place [] inside l.invariant c.in_ok-push.ensures.items (c.price_over.ensures ∙ only_best next_row c.hops.result.now hop one c.index-hops-0.is ∙ ap (best_price next_row) c.hops.ensures)

pub returns : goal.returns
returns c =
    let past : length c.args.step.now ≤ c.loop-place.place = omega (arith, c.loop-place-test.false) in
    c.loop-place.invariant ∙ ap (row_over (map told c.args.next_row.now)) (take_all c.loop-place.place c.args.step.now past)
