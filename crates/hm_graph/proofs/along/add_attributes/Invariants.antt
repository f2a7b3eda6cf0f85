use Rattle.hm_tree.specs.Views.{attributes_shown}
use Rattle.hm_graph.proofs.Going.{AttributesAdded}
use Rattle.hm_graph.proofs.along.add_attributes.Given as goal

abbrev pub invariant-loop-i : goal.invariant-loop-i
invariant-loop-i g l = AttributesAdded g.V.Visitor.goes_on (attributes_shown l.attrs) l.i l.initial.along l.along
