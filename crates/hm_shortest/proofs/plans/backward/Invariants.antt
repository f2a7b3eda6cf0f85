use Rattle.std.proofs.Common.{◌≤◌, length}
use Rattle.hm_graph.specs.Graphs.{IsPlace}
use Rattle.hm_shortest.specs.Plans.{IsFound}
use Rattle.hm_shortest.proofs.plans.backward.Given as goal

abbrev pub invariant-loop-layer : goal.invariant-loop-layer
invariant-loop-layer l = record {
  found : IsFound l.graph l.layer.layer l.back;
  place : IsPlace l.graph l.layer;
  within : l.layer.layer ≤ length l.graph.steps;
}

abbrev pub decreases-loop-layer : goal.decreases-loop-layer
decreases-loop-layer l = l.layer.layer
