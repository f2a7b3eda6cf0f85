use Rattle.std.proofs.Common.{◌≡◌, ◌∷◌, [], IfOk, sym, subst, string_bytes, codes}
use Rattle.std.specs.Fmt.{decimal}
use Rattle.hm_minify.specs.Lines.{json_line}
use Rattle.hm_location.proofs.Joined.{five}
use Rattle.hm_minify.proofs.lines.json_line.Goals as goal

pub returns-in-NotSettled : goal.returns-in-NotSettled
returns-in-NotSettled c = subst (λ fault. IfOk c.format-in-NotSettled.result (λ line. string_bytes line ≡ json_line fault)) (sym c.in-NotSettled.is)
    (subst (λ text. IfOk c.format-in-NotSettled.result (λ line. string_bytes line ≡ text)) (five (codes "json refused: NotSettled event ") (decimal c.in-NotSettled.event) (codes " point ") (decimal c.in-NotSettled.point) (10 ∷ [])) c.format-in-NotSettled.ensures.ok)
