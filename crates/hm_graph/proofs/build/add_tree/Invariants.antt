use Rattle.hm_graph.proofs.Going.{EventsAdded}
use Rattle.hm_graph.proofs.build.add_tree.Given as goal

abbrev pub invariant-loop-i : goal.invariant-loop-i
invariant-loop-i g l = EventsAdded g.V.Visitor.goes_on l.rules l.tree l.i l.initial.along l.along
