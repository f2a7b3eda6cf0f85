use Rattle.std.proofs.Common.{◌<◌, ◌^◌, sym, subst, ◌∙◌, map, arith}
use Rattle.hm_cert.specs.Layout.{told}
use Rattle.hm_check.proofs.Sums.{low_hop, best_turn}
use Rattle.hm_check.proofs.bounds.least_price.Goals as goal

pub price_over-requires-clause-low : goal.price_over-requires-clause-low
price_over-requires-clause-low c =
    subst (λ h. h.len < 2 ^ 33) (sym c.hop-item.is) (low_hop c.args.hops.now c.loop-hop.hop-index c.hop-item.result c.loop-hop-test.true c.requires.low)

pub loop-hop-preserved : goal.loop-hop-preserved
loop-hop-preserved c = record {
  fits = omega (arith, c.min-best.type_inv);
  best =
      best_turn c.loop-hop.best c.price_over.result c.min-best.result (map told c.args.next_row.now) c.hop-item.result c.args.hops.now c.loop-hop.hop-index c.loop-hop-test.true c.hop-item.is
      c.min-best.ensures c.loop-hop.invariant.fits (omega (arith, c.price_over.type_inv)) c.price_over.ensures
      ∙ c.loop-hop.invariant.best;
}
