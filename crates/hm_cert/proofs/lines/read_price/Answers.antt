use Rattle.std.proofs.Common.{◌∷◌, [], refl, sym}
use Rattle.hm_cert.proofs.PriceTexts.{no_form, number_read, other_word}
use Rattle.hm_cert.proofs.lines.read_price.Goals as goal

pub returns-then-not-has_number_form : goal.returns-then-not-has_number_form
returns-then-not-has_number_form c =
    sym (no_form c.args.word.now (other_word c.args.word.now c.as_slice.result.now (45 ∷ []) c.if-eq.ensures c.as_slice.ensures) (λ h. let is = c.if-not-has_number_form.ensures.1 h in absurd (cc)))

pub returns : goal.returns
returns c =
    number_read c.args.word.now c.read_number.result (other_word c.args.word.now c.as_slice.result.now (45 ∷ []) c.if-eq.ensures c.as_slice.ensures) (c.if-not-has_number_form.ensures.0 refl) c.read_number.ensures
