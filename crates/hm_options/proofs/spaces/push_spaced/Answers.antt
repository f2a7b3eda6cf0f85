use Rattle.std.proofs.Common.{◌<◌, length, subst, arith}
use Rattle.hm_options.specs.Fronts.{IsSpacedFront}
use Rattle.hm_options.proofs.Fronts.{front_boundary, after_one}
use Rattle.hm_options.proofs.spaces.push_spaced.Goals as goal

pub range-requires-clause-end_boundary : goal.range-requires-clause-end_boundary
range-requires-clause-end_boundary c =
    front_boundary c.runs.rest.now c.spaced_front-front.result (subst (λ s. IsSpacedFront s c.spaced_front-front.result) c.as_bytes.ensures.value c.spaced_front-front.ensures)

pub range_from-requires : goal.range_from-requires
range_from-requires c =
    let h : IsSpacedFront c.runs.rest.now c.spaced_front-front.result = subst (λ s. IsSpacedFront s c.spaced_front-front.result) c.as_bytes.ensures.value c.spaced_front-front.ensures in
    let inside : c.spaced_front-front.result.to < length c.runs.rest.now = omega (arith, h.inside, c.if-front-rest.false) in
    λ _. after_one c.runs.rest.now c.spaced_front-front.result.to c.runs.invariant.1 inside (h.space inside)
