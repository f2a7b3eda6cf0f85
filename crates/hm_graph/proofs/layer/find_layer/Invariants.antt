use Rattle.std.proofs.Common.{take, map}
use Rattle.hm_graph.specs.Layers.{IsLayer}
use Rattle.hm_graph.proofs.layer.find_layer.Given as goal

abbrev pub invariant-loop-state : goal.invariant-loop-state
invariant-loop-state l = IsLayer l.table l.rules l.unit (take l.state-index l.from) l.layer.after.items (map (λ hops. hops.items) l.layer.hops.items)
