use Rattle.std.proofs.lemmas.Result.{on_ok_weaker}
use Rattle.hm_event_parts.proofs.OwnBytes.{own_bytes_kept, stands_for}
use Rattle.hm_event_parts.specs.Parts.{unit_with}
use Rattle.hm_graph.proofs.along.add_one.Goals as goal

pub returns : goal.returns
returns g c =
    on_ok_weaker c.add.result
    (λ goes. goes (unit_with c.args.unit.now c.args.own.now) (stands_for c.args.along.now.graph.table.entries c.args.unit.now c.args.own.now c.requires) (own_bytes_kept c.args.unit.now c.args.own.now c.requires))
    c.add.ensures
