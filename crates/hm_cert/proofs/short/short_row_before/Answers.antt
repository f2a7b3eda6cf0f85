use Rattle.std.proofs.Common.{refl, arith}
use Rattle.hm_cert.proofs.BackNumbers.{price_first, price_more}
use Rattle.hm_cert.proofs.short.short_row_before.Goals as goal
use Rattle.hm_cert.proofs.short.short_row_before.Goals.{then-at-eq0-via-then-at-eq0, then-at-eq0-via-else-at-eq0+then-text-at-eq10}

pub returns-then-at-eq0 : goal.returns-then-at-eq0
returns-then-at-eq0 c =
    price_first c.args.text.now _ c.loop-next.front c.args.end c.in-Some.at c.in-Some.next c.loop-next.into.items c.push.new.self.items c.turn.new.row.items c.requires refl c.loop-next.invariant c.in-Some.ensures
    (elim c.then-at-eq0.branch [ then-at-eq0-via-then-at-eq0 w ↦ λ some. absurd (omega (arith, some, w.if-at-eq0.true)) | then-at-eq0-via-else-at-eq0+then-text-at-eq10 w ↦ λ _. w.if-text-at-eq10.true ])
    c.in_ok-push.ensures.items c.turn.ensures

pub loop-next-preserved : goal.loop-next-preserved
loop-next-preserved c =
    price_more c.args.text.now _ c.loop-next.front c.args.end c.in-Some.at c.in-Some.next c.loop-next.into.items c.push.new.self.items c.requires refl c.loop-next.invariant c.in-Some.ensures (omega (arith, c.if-at-eq0.false))
    c.if-text-at-ne32.false c.in_ok-push.ensures.items
