use Rattle.std.proofs.Common.{◌≡◌, ◌<◌, length, arith}
use Rattle.hm_event_parts.specs.Found.{found_units}
use Rattle.hm_graph.proofs.Going.{events_all, events_begin, events_next}
use Rattle.hm_graph.proofs.build.add_tree.Goals as goal

pub loop-i-init : goal.loop-i-init
loop-i-init g c = events_begin g.V.Visitor.goes_on c.args.rules c.args.tree.now c.args.along.now

pub loop-i-preserved : goal.loop-i-preserved
loop-i-preserved g c =
    let within : c.loop-i.i < length c.args.tree.now = omega (arith, c.loop-i-test.true, c.len-i-end.ensures.len) in
    events_next g.V.Visitor.goes_on c.args.rules c.args.tree.now c.loop-i.i (found_units c.find_event.result) c.args.along.now c.loop-i.along c.add_found.new.along within c.find_event.ensures.units c.loop-i.invariant c.in_ok-add_found.ensures

pub returns : goal.returns
returns g c =
    let past : c.loop-i.i ≡ length c.args.tree.now = omega (arith, c.loop-i-test.false, c.loop-i.auto.i-end, c.len-i-end.ensures.len) in
    events_all g.V.Visitor.goes_on c.args.rules c.args.tree.now c.loop-i.i c.args.along.now c.loop-i.along past c.loop-i.invariant
