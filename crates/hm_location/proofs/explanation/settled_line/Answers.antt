use Rattle.std.proofs.Common.{◌≡◌, ◌∷◌, [], IfOk, subst, string_bytes, codes}
use Rattle.std.specs.Fmt.{decimal}
use Rattle.hm_location.proofs.Joined.{six}
use Rattle.hm_location.proofs.explanation.settled_line.Goals as goal

pub returns : goal.returns
returns c = subst (λ text. IfOk c.format.result (λ line. string_bytes line ≡ text)) (six c.args.name.now (codes ": settled, page ") (decimal c.args.page) (codes " output ") (decimal c.args.out) (10 ∷ [])) c.format.ensures.ok
