use Rattle.std.proofs.Common.{◌<◌, ◌∙◌, ap, sym, subst, length, slice_get, arith}
use Rattle.std.specs.Option.{IfSome}
use Rattle.hm_edges.specs.Pieces.{HasName}
use Rattle.hm_shortest.proofs.FirstWay.{taken_is, taken_named}
use Rattle.hm_shortest.proofs.paths.taken_at.Goals as goal

pub returns-clause-taken : goal.returns-clause-taken
returns-clause-taken c = λ after is.
    let inside : c.args.place < length c.args.step.now = omega (arith, c.width.ensures) in
    c.hop_at.ensures ∙ (λ i. slice_get (c.hops.ensures i) (c.choice_at.ensures i)) ∙ taken_is after c.args.step.now c.args.choices.now c.args.place inside is

pub returns-clause-named : goal.returns-clause-named
returns-clause-named c = λ t h.
    subst (λ r. IfSome r (λ hop. HasName t hop.piece)) (sym (c.hop_at.ensures ∙ ap (λ hops. slice_get hops c.choice_at.result) c.hops.ensures)) (taken_named t c.args.step.now c.args.place c.choice_at.result h)
