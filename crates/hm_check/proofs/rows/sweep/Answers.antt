use Rattle.std.proofs.Common.{◌≡◌, ◌+◌, sym, subst, arith}
use Rattle.hm_check.specs.Sweeps.{IsSwept}
use Rattle.hm_check.proofs.rows.sweep.Goals as goal

pub loop-layer-init : goal.loop-layer-init
loop-layer-init c = record {
  swept = subst (λ k. IsSwept c.args.graph.now c.args.prices.now k c.in_ok-sweep.sweep) (sym c.last_layer-layer.ensures.layer) c.in_ok-sweep.ensures;
  place = c.last_layer-layer.ensures.place;
  within = omega (arith, c.last_layer-layer.ensures.layer);
}

pub take_layer-requires-clause-swept : goal.take_layer-requires-clause-swept
take_layer-requires-clause-swept c =
    let next : c.pass_still-after.result.layer ≡ c.back-front.result.layer + 1 = omega (arith, c.back-front.ensures.layer, c.pass_still-after.ensures.first c.loop-layer-test.true) in
    subst (λ k. IsSwept c.args.graph.now c.args.prices.now k c.pass_still-after.new.self) next c.pass_still-after.ensures.swept

pub returns : goal.returns
returns c =
    let first : c.loop-layer.layer.layer ≡ 0 = omega (arith, c.loop-layer-test.false) in
    subst (λ k. IsSwept c.args.graph.now c.args.prices.now k c.loop-layer.sweep) first c.loop-layer.invariant.swept
