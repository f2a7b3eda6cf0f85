use Rattle.std.proofs.Common.{◌≡◌, ◌++◌, ◌∷◌, [], IfOk, ◌∙◌, subst, string_bytes, codes}
use Rattle.std.specs.Fmt.{decimal}
use Rattle.hm_minify.specs.Lines.{price_word}
use Rattle.hm_location.proofs.Joined.{nine}
use Rattle.hm_minify.proofs.lines.too_high_line.Goals as goal

pub returns : goal.returns
returns c =
    let price = c.as_str-price.ensures.value ∙ c.in_ok-price.ensures in
    let bound = c.as_str-bound.ensures.value ∙ c.in_ok-bound.ensures in
    subst (λ b. IfOk c.format.result (λ line. string_bytes line ≡ codes "no 6 layer " ++ decimal c.args.layer ++ codes " state " ++ decimal c.args.state ++ codes ": price " ++ price_word c.args.price ++ codes " above " ++ b ++ 10 ∷ [])) bound
    (subst (λ p. IfOk c.format.result (λ line. string_bytes line ≡ codes "no 6 layer " ++ decimal c.args.layer ++ codes " state " ++ decimal c.args.state ++ codes ": price " ++ p ++ codes " above " ++ c.as_str-bound.result.now ++ 10 ∷ [])) price
    (subst (λ text. IfOk c.format.result (λ line. string_bytes line ≡ text)) (nine (codes "no 6 layer ") (decimal c.args.layer) (codes " state ") (decimal c.args.state) (codes ": price ") c.as_str-price.result.now (codes " above ") c.as_str-bound.result.now (10 ∷ []))
    c.format.ensures.ok))
