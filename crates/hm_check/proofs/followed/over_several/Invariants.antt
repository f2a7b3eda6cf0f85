use Rattle.std.specs.Option.{IfSome}
use Rattle.hm_edges.specs.Pieces.{piece_text}
use Rattle.hm_event_parts.specs.UnitText.{own_text}
use Rattle.hm_check.specs.Following.{IsOver}
use Rattle.hm_check.proofs.followed.over_several.Given as goal

abbrev pub invariant-loop-hop : goal.invariant-loop-hop
invariant-loop-hop l = IfSome l.found (IsOver (piece_text l.table.entries (own_text l.own)) l.hops l.text)
