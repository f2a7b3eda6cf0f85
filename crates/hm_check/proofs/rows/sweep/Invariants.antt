use Rattle.std.proofs.Common.{◌≤◌, length}
use Rattle.hm_graph.specs.Graphs.{IsPlace}
use Rattle.hm_check.specs.Sweeps.{IsSwept}
use Rattle.hm_check.proofs.rows.sweep.Given as goal

abbrev pub invariant-loop-layer : goal.invariant-loop-layer
invariant-loop-layer l = record {
  swept : IsSwept l.graph l.prices l.layer.layer l.sweep;
  place : IsPlace l.graph l.layer;
  within : l.layer.layer ≤ length l.graph.steps;
}

abbrev pub decreases-loop-layer : goal.decreases-loop-layer
decreases-loop-layer l = l.layer.layer
