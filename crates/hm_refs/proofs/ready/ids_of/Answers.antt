use Rattle.std.proofs.Common.{◌∙◌, ◌++◌, ◌∷◌, [], sym}
use Rattle.std.proofs.lemmas.List.{take_all, take_more}
use Rattle.hm_refs.proofs.ready.ids_of.Goals as goal

pub loop-number-preserved : goal.loop-number-preserved
loop-number-preserved c =
    c.in_ok-push.ensures.items ∙ (λ i. c.loop-number.invariant i ++ c.new.ensures i ∷ []) ∙ sym (take_more c.args.numbers.now c.loop-number.number-index 0 c.loop-number-test.true)

pub returns : goal.returns
returns c = c.loop-number.invariant ∙ take_all c.loop-number.number-index c.args.numbers.now c.loop-number-test.false
