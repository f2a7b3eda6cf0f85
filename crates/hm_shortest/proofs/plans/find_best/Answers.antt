use Rattle.std.proofs.Common.{◌-◌, ◌<◌, ◌^◌, map, arith}
use Rattle.hm_cert.specs.Layout.{told}
use Rattle.hm_shortest.proofs.Prices.{low_hop, no_best, cut_before, takes_front, keeps_best, all_best}
use Rattle.hm_shortest.proofs.plans.find_best.Goals as goal

pub loop-place-init : goal.loop-place-init
loop-place-init c = no_best (map told c.args.next_row.now) c.args.hops.now

pub price_over-price-requires-clause-low : goal.price_over-price-requires-clause-low
price_over-price-requires-clause-low c =
    let low : c.index-hops-place.result.len < 2 ^ 33 = low_hop c.args.hops.now (c.loop-place.place - 1) c.index-hops-place.result c.requires.low (omega arith) c.index-hops-place.is in
    omega arith

pub loop-place-preserved : goal.loop-place-preserved
loop-place-preserved c =
    let cut = cut_before c.args.hops.now c.loop-place.place c.index-hops-place.result c.loop-place-test.true (omega arith) c.index-hops-place.is in
    keeps_best (map told c.args.next_row.now) c.args.hops.now c.loop-place.place c.index-hops-place.result c.price_over-price.result c.loop-place.best.price c.loop-place.best.place c.loop-place-test.true c.loop-place.invariant cut
    c.price_over-price.ensures c.price_over-price.type_inv c.if-price-best.false

pub loop-place-preserved-then-price-best : goal.loop-place-preserved-then-price-best
loop-place-preserved-then-price-best c =
    let cut = cut_before c.args.hops.now c.loop-place.place c.index-hops-place.result c.loop-place-test.true (omega arith) c.index-hops-place.is in
    takes_front (map told c.args.next_row.now) c.args.hops.now c.loop-place.place c.index-hops-place.result c.price_over-price.result c.loop-place.best.price c.loop-place.best.place c.loop-place.invariant cut
    c.price_over-price.ensures c.price_over-price.type_inv c.if-price-best.true

pub returns : goal.returns
returns c = let e = all_best (map told c.args.next_row.now) c.args.hops.now c.loop-place.place c.loop-place.best.price c.loop-place.best.place c.loop-place-test.false c.loop-place.invariant in record { price = e.0; place = e.1 }
