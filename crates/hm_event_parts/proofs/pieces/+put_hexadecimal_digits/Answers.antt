use Rattle.std.proofs.Common.{◌++◌, ◌/◌, ◌%◌, ◌∷◌, [], false, sym, ap, ◌∙◌, append_assoc, arith}
use Rattle.std.proofs.lemmas.Fmt.{hex_one_digit}
use Rattle.std.proofs.lemmas.Result.{on_ok_weaker}
use Rattle.std.specs.Fmt.{digits, digit_glyph}
use Rattle.hm_event_parts.proofs.Hexadecimal.{hexadecimal_more}
use Rattle.hm_event_parts.proofs.pieces.+put_hexadecimal_digits.Goals as goal

pub returns-then-number-lt16 : goal.returns-then-number-lt16
returns-then-number-lt16 t c =
    on_ok_weaker c.put.result (λ e. e ∙ ap (λ d. c.args.out.now.items ++ d ∷ []) c.hexadecimal_digit.ensures ∙ ap (λ x. c.args.out.now.items ++ x) (sym (hex_one_digit false c.args.number (omega arith)))) c.put.ensures

pub returns : goal.returns
returns t c =
    let n = c.args.number in
    on_ok_weaker c.put-2.result
    (λ e. e
    ∙ ap (λ d. c.put_hexadecimal_digits.new.out.items ++ d ∷ []) c.hexadecimal_digit-2.ensures
    ∙ ap (λ x. x ++ digit_glyph false (n % 16) ∷ []) c.in_ok-put_hexadecimal_digits.ensures
    ∙ append_assoc c.args.out.now.items (digits 16 false (n / 16)) (digit_glyph false (n % 16) ∷ [])
    ∙ ap (λ x. c.args.out.now.items ++ x) (hexadecimal_more n (omega arith) (omega arith))) c.put-2.ensures
