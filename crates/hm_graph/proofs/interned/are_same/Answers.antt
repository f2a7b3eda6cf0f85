use Rattle.std.proofs.Common.{◌∙◌, ◌++◌, ◌∷◌, [], sym, arith}
use Rattle.std.proofs.lemmas.List.{take_all, take_more}
use Rattle.hm_graph.proofs.interned.are_same.Goals as goal

pub loop-i-preserved : goal.loop-i-preserved
loop-i-preserved c =
    let x = c.index-one-i.result in
    let y = c.index-other-i.result in
    take_more c.args.one.now c.loop-i.i x c.loop-i-test.true
    ∙ (λ j. c.loop-i.invariant j ++ (sym c.index-one-i.is ∙ c.is_state.ensures.0 c.if-not-is_state.false ∙ c.index-other-i.is) j ∷ [])
    ∙ sym (take_more c.args.other.now c.loop-i.i y (omega (arith, c.if-one-other.false, c.loop-i-test.true)))

pub returns : goal.returns
returns c = λ same.
    sym (take_all c.loop-i.i c.args.one.now c.loop-i-test.false) ∙ c.loop-i.invariant ∙ take_all c.loop-i.i c.args.other.now (omega (arith, c.if-one-other.false, c.loop-i-test.false))
