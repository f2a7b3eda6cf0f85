use Rattle.std.proofs.Common.{[], get_or, refl, subst, arith}
use borrow.Author.Count.{below_none, below_more}
use Rattle.hm_graph.specs.Still.{Stays}
use Rattle.hm_graph.proofs.still.are_still.Goals as goal

pub loop-place-init : goal.loop-place-init
loop-place-init c = below_none (λ p. Stays c.args.len p (get_or c.args.step.now p []))

pub loop-place-preserved : goal.loop-place-preserved
loop-place-preserved c =
    below_more (λ p. Stays c.args.len p (get_or c.args.step.now p [])) c.loop-place.place c.loop-place.invariant (subst (Stays c.args.len c.loop-place.place) c.hops.ensures (c.if-not-stays.ensures refl))

pub returns : goal.returns
returns c = λ all place inside. c.loop-place.invariant place (omega (arith, inside))
