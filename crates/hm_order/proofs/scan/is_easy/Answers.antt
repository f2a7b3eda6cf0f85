use Rattle.std.proofs.Common.{◌≡◌, true, false, sym, ◌∙◌}
use Rattle.hm_order.proofs.Scans.{easy_from}
use Rattle.hm_order.proofs.scan.is_easy.Goals as goal

pub returns-then-is_plain : goal.returns-then-is_plain
returns-then-is_plain c = λ there.
    easy_from c.args.table.now.entries c.args.ascii c.args.low c.args.c c.else-low.either c.if-c-eq34.false c.if-c-eq13.false c.if-c-ge128.either (λ off. absurd (let both : true ≡ false = sym c.if-is_plain.true ∙ c.is_plain.ensures ∙ off in cc))

pub returns-else-is_plain : goal.returns-else-is_plain
returns-else-is_plain c = λ there. easy_from c.args.table.now.entries c.args.ascii c.args.low c.args.c c.else-low.either c.if-c-eq34.false c.if-c-eq13.false c.if-c-ge128.either (λ off. c.is_heavy.ensures there)
