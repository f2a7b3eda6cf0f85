use Rattle.std.proofs.Common.{take}
use Rattle.hm_graph.specs.Layers.{AreHops}
use Rattle.hm_graph.proofs.layer.hops_of.Given as goal

abbrev pub invariant-loop-edge : goal.invariant-loop-edge
invariant-loop-edge l = AreHops l.table l.unit (take l.edge-index l.edges) l.initial.after.items l.after.items l.hops.items
