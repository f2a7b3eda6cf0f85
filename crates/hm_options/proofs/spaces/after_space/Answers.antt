use Rattle.std.proofs.Common.{◌≡◌, get_or, true, refl, sym, ◌∙◌, arith}
use Rattle.std.proofs.lemmas.Str.{IsCharBoundary-start}
use Rattle.hm_base.specs.Bytes.{is_space}
use Rattle.hm_options.proofs.Fronts.{after_one, skip_more}
use Rattle.hm_options.proofs.spaces.after_space.Goals as goal

pub loop-at-init : goal.loop-at-init
loop-at-init c = (omega arith, refl, IsCharBoundary-start c.as_bytes-bytes.result.now c.as_bytes-bytes.ensures.utf8)

pub loop-at-preserved : goal.loop-at-preserved
loop-at-preserved c =
    let bytes = c.as_bytes-bytes.result.now in
    let space : is_space (get_or bytes c.loop-at.at 0) ≡ true = sym c.is_space.ensures ∙ c.if-is_space.true in
    (omega (arith, c.loop-at-test.true), skip_more bytes c.loop-at.at c.loop-at-test.true space c.loop-at.invariant.1, after_one bytes c.loop-at.at c.as_bytes-bytes.ensures.utf8 c.loop-at-test.true space)
