use Rattle.std.proofs.Common.{◌≡◌, IfOk, subst, string_bytes, codes}
use Rattle.std.specs.Fmt.{decimal}
use Rattle.hm_location.proofs.Joined.{seven}
use Rattle.hm_minify.proofs.lines.measured_line.Goals as goal

pub returns : goal.returns
returns c = subst (λ text. IfOk c.format.result (λ line. string_bytes line ≡ text)) (seven (codes "page ") (decimal c.args.page) (codes " output ") (decimal c.args.out) (codes " layers ") (decimal c.args.layers) (codes " yes\n")) c.format.ensures.ok
