use Rattle.std.proofs.Common.{◌≡◌, ◌+◌, ◌-◌, subst, sym, arith}
use Rattle.hm_check.specs.Sweeps.{IsSwept}
use Rattle.hm_check.proofs.Within.{kept_later}
use Rattle.hm_check.proofs.sweep.Sweep.read_on.Goals as goal

pub read_layer-requires-clause-step : goal.read_layer-requires-clause-step
read_layer-requires-clause-step c =
    sym (c.requires.alike (c.loop-layer.layer - 1) (omega (arith, c.loop-layer-test.true)) (omega (arith, c.loop-layer-test.true, c.loop-layer.invariant.high)))

pub read_layer-requires-clause-kept : goal.read_layer-requires-clause-kept
read_layer-requires-clause-kept c = kept_later c.args.graph.now.source.format (c.loop-layer.layer - 1) c.args.step.now c.requires.kept

pub read_layer-requires-clause-swept : goal.read_layer-requires-clause-swept
read_layer-requires-clause-swept c =
    let back : c.loop-layer.layer ≡ c.loop-layer.layer - 1 + 1 = omega (arith, c.loop-layer-test.true) in
    subst (λ k. IsSwept c.args.graph.now c.args.prices.now k c.loop-layer.self) back c.loop-layer.invariant.swept
