use Rattle.std.proofs.Common.{◌<◌, length, arith}
use Rattle.hm_refs.specs.Nodes.{entries_of}
use Rattle.hm_refs.proofs.Growing.{ended_on, place_inside, place_read}
use Rattle.hm_refs.proofs.nodes.mark_ends.Goals as goal

pub offset_bounds-nodes-index : goal.offset_bounds-nodes-index
offset_bounds-nodes-index c = let i = place_inside (entries_of c.args.names.now) _ c.index.result _ _ c.loop-number.invariant (omega (arith, c.loop-number.invariant.as_long)) (place_read _ _ _ _ c.loop-number-test.true c.index.ensures c.index-places-number.is) in omega (arith, i, c.loop-number.invariant.few)

pub bounds-nodes-index : goal.bounds-nodes-index
bounds-nodes-index c = place_inside (entries_of c.args.names.now) _ _ _ _ c.loop-number.invariant (omega (arith, c.loop-number.invariant.as_long)) (place_read _ _ _ _ c.loop-number-test.true c.index.ensures c.index-places-number.is)

pub bounds-nodes-index-in-loop-number : goal.bounds-nodes-index-in-loop-number
bounds-nodes-index-in-loop-number c = place_inside (entries_of c.args.names.now) _ c.index.result _ _ c.loop-number.invariant (omega (arith, c.loop-number.invariant.as_long)) (place_read _ _ _ _ c.loop-number-test.true c.index.ensures c.index-places-number.is)

pub loop-number-preserved : goal.loop-number-preserved
loop-number-preserved c =
    let l : c.loop-number.number < length (entries_of c.args.names.now) = omega (arith, c.loop-number.invariant.as_long) in
    ended_on _ _ _ _ _ _ c.index-nodes-index.result c.loop-number.invariant l (place_read _ _ _ _ c.loop-number-test.true c.index.ensures c.index-places-number.is) c.new.ensures c.index-nodes-index.is
