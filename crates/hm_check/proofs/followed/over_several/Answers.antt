use Rattle.std.proofs.Common.{sym, subst}
use Rattle.std.specs.Option.{IfSome}
use Rattle.hm_edges.specs.Pieces.{HasName, piece_text}
use Rattle.hm_event_parts.specs.UnitText.{own_text}
use Rattle.hm_check.specs.Following.{IsOver, LeadsTo}
use Rattle.hm_check.proofs.Following.{either_over, hop_over, named_at}
use Rattle.hm_check.proofs.followed.over_several.Goals.{then-may_begin+in_ok-over_one, else-may_begin}
use Rattle.hm_check.proofs.followed.over_several.Goals as goal

pub over_one-requires : goal.over_one-requires
over_one-requires c =
    subst (λ h. HasName c.args.table.now.entries h.piece) (sym c.hop-item.is) (named_at c.args.table.now.entries c.args.hops.now c.loop-hop.hop-index c.hop-item.result c.loop-hop-test.true c.requires)

pub loop-hop-preserved : goal.loop-hop-preserved
loop-hop-preserved c =
    let bytes = piece_text c.args.table.now.entries (own_text c.args.own) in
    let hops = c.args.hops.now in
    let text = c.args.text.now in
    elim c.if-may_begin.branch [
      | then-may_begin+in_ok-over_one w ↦ subst (λ found. IfSome found (IsOver bytes hops text)) (sym w.found-is)
          (either_over bytes hops text w.further-found.result c.loop-hop.found w.in_ok-over_one.field-0 w.further-found.ensures c.loop-hop.invariant
          (hop_over bytes hops c.loop-hop.hop-index c.hop-item.result text w.in_ok-over_one.field-0 c.loop-hop-test.true (subst (λ h. IfSome w.in_ok-over_one.field-0 (LeadsTo bytes h text)) c.hop-item.is w.in_ok-over_one.ensures)))
      | else-may_begin w ↦ subst (λ found. IfSome found (IsOver bytes hops text)) (sym w.found-is) c.loop-hop.invariant
    ]
