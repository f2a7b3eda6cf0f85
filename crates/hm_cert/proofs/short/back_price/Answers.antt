use Rattle.std.proofs.Common.{refl, subst}
use Rattle.std.proofs.lemmas.List.{take_rest}
use Rattle.hm_cert.specs.Words.{HasNumberForm}
use Rattle.hm_cert.proofs.BackNumbers.{last_number}
use Rattle.hm_cert.proofs.short.back_price.Goals as goal

pub returns-then-has_number_form : goal.returns-then-has_number_form
returns-then-has_number_form c =
    last_number c.args.text.now c.back_number-number.result.1 c.back_number-number.result.0 c.back_number-number.ensures (subst HasNumberForm (take_rest c.args.text.now c.back_number-number.result.1) (c.if-has_number_form.ensures.0 refl))
