use Rattle.std.proofs.Common.{◌≡◌, ◌-◌, length, ap, ◌∙◌, arith}
use Rattle.std.specs.List.{swap}
use Rattle.hm_cert.proofs.Turned.{few_turned, one_turned}
use Rattle.hm_cert.proofs.short.turn.Goals as goal

pub returns-then-len-gt1 : goal.returns-then-len-gt1
returns-then-len-gt1 c =
    let row = c.args.row.now in
    let size : c.len-len.result ≡ length row.items = c.len-len.ensures ∙ row.ok.0 in
    c.swap.ensures.items
    ∙ ap (λ n. swap row.items 0 (n - 1)) size
    ∙ few_turned row.items (omega (arith, size, c.if-len-gt1.true)) (omega (arith, size, c.if-len-gt3.false))

pub returns-else-len-gt1 : goal.returns-else-len-gt1
returns-else-len-gt1 c =
    let row = c.args.row.now in
    let size : c.len-len.result ≡ length row.items = c.len-len.ensures ∙ row.ok.0 in
    one_turned row.items (omega (arith, size, c.if-len-gt1.false))
