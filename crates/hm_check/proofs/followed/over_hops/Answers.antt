use Rattle.std.proofs.Common.{arith}
use Rattle.hm_edges.specs.Pieces.{piece_text}
use Rattle.hm_event_parts.specs.UnitText.{own_text}
use Rattle.hm_check.proofs.Following.{only_over}
use Rattle.hm_check.proofs.followed.over_hops.Goals as goal

pub returns-in-len1 : goal.returns-in-len1
returns-in-len1 c = only_over (piece_text c.args.table.now.entries (own_text c.args.own)) c.args.hops.now c.hop-item.result _ c.args.text.now c.over_hop.result (omega (arith, c.in-len1.len_at_least)) c.hop-item.is c.over_hop.ensures
