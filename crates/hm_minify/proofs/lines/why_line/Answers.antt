use Rattle.std.proofs.Common.{◌≡◌, ◌∷◌, [], IfOk, sym, subst, string_bytes, codes}
use Rattle.std.specs.Fmt.{decimal}
use Rattle.hm_minify.specs.Lines.{why_line}
use Rattle.hm_location.proofs.Joined.{five, seven}
use Rattle.hm_minify.proofs.lines.why_line.Goals as goal

pub returns-in-WrongLayers : goal.returns-in-WrongLayers
returns-in-WrongLayers c = subst (λ why. IfOk c.format-in-WrongLayers.result (λ line. string_bytes line ≡ why_line why)) (sym c.in-WrongLayers.is)
    (subst (λ text. IfOk c.format-in-WrongLayers.result (λ line. string_bytes line ≡ text)) (five (codes "no 4 layers ") (decimal c.in-WrongLayers.got) (codes ", wanted ") (decimal c.in-WrongLayers.want) (10 ∷ [])) c.format-in-WrongLayers.ensures.ok)

pub returns-in-WrongWidth : goal.returns-in-WrongWidth
returns-in-WrongWidth c = subst (λ why. IfOk c.format-in-WrongWidth.result (λ line. string_bytes line ≡ why_line why)) (sym c.in-WrongWidth.is)
    (subst (λ text. IfOk c.format-in-WrongWidth.result (λ line. string_bytes line ≡ text)) (seven (codes "no 5 layer ") (decimal c.in-WrongWidth.layer) (codes ": prices ") (decimal c.in-WrongWidth.got) (codes ", wanted ") (decimal c.in-WrongWidth.want) (10 ∷ [])) c.format-in-WrongWidth.ensures.ok)

pub returns-in-TooLong : goal.returns-in-TooLong
returns-in-TooLong c = subst (λ why. IfOk c.format-in-TooLong.result (λ line. string_bytes line ≡ why_line why)) (sym c.in-TooLong.is)
    (subst (λ text. IfOk c.format-in-TooLong.result (λ line. string_bytes line ≡ text)) (five (codes "no 7 output ") (decimal c.in-TooLong.length) (codes " bytes, first price ") (decimal c.in-TooLong.first) (10 ∷ [])) c.format-in-TooLong.ensures.ok)
