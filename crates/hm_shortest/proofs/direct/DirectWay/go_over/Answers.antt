use Rattle.hm_event_parts.specs.UnitText.{own_text}
use Rattle.hm_shortest.proofs.Directly.{goes_over_one}
use Rattle.hm_shortest.proofs.direct.DirectWay.go_over.Goals as goal

pub returns : goal.returns
returns c =
    goes_over_one c.args.table.now.entries c.args.step.now (own_text c.args.own) c.args.self.now c.begin.new.self c.settle_before.new.self c.put_or_keep.new.self c.begin.ensures.place c.begin.ensures.stretch c.begin.ensures.first
    c.in_ok-settle_before.ensures.first c.in_ok-settle_before.ensures.goes c.in_ok-put_or_keep.ensures.first c.in_ok-put_or_keep.ensures.goes
