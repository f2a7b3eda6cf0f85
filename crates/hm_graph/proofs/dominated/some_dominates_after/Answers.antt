use Rattle.hm_edges.specs.Pieces.{edge_of}
use Rattle.hm_optimality_laws.specs.Dominated.{dominates_after}
use Rattle.hm_graph.proofs.KeptEdges.{any_found, any_next, any_end}
use Rattle.hm_graph.proofs.dominated.some_dominates_after.Goals as goal

pub returns-then-dominates_after : goal.returns-then-dominates_after
returns-then-dominates_after c = λ u stands.
    any_found (dominates_after c.args.table.now.entries u (edge_of c.args.table.now u c.args.edge.now)) c.args.table.now u c.args.others.now c.loop-other.other-index c.other-item.result c.dominates_after.result _
    c.loop-other-test.true c.other-item.is (c.dominates_after.ensures u stands) c.if-dominates_after.true (c.loop-other.invariant u stands)

pub loop-other-preserved : goal.loop-other-preserved
loop-other-preserved c = λ u stands.
    any_next (dominates_after c.args.table.now.entries u (edge_of c.args.table.now u c.args.edge.now)) c.args.table.now u c.args.others.now c.loop-other.other-index c.other-item.result c.dominates_after.result _
    c.loop-other-test.true c.other-item.is (c.dominates_after.ensures u stands) c.if-dominates_after.false (c.loop-other.invariant u stands)

pub returns : goal.returns
returns c = λ u stands.
    any_end (dominates_after c.args.table.now.entries u (edge_of c.args.table.now u c.args.edge.now)) c.args.table.now u c.args.others.now c.loop-other.other-index _ c.loop-other-test.false (c.loop-other.invariant u stands)
