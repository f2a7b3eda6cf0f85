use Rattle.std.proofs.Common.{◌≡◌, get_or, true, refl, sym, ap, ◌∙◌, arith}
use Rattle.std.proofs.lemmas.Str.{IsCharBoundary-start}
use Rattle.hm_base.specs.Bytes.{is_space}
use Rattle.hm_insertion.proofs.PlainTexts.{one_more_space}
use Rattle.hm_insertion.proofs.text.split_blank.Goals as goal

pub loop-at-init : goal.loop-at-init
loop-at-init c = (omega arith, refl, IsCharBoundary-start c.as_bytes-bytes.result.now c.as_bytes-bytes.ensures.utf8)

pub loop-at-preserved : goal.loop-at-preserved
loop-at-preserved c =
    let space : is_space (get_or c.as_bytes-bytes.result.now c.loop-at.at 0) ≡ true = sym (ap is_space c.from.ensures) ∙ sym c.is_space.ensures ∙ c.if-is_space.true in
    one_more_space c.as_bytes-bytes.result.now c.loop-at.at c.as_bytes-bytes.ensures.utf8 c.loop-at-test.true space c.loop-at.invariant
