use Rattle.std.proofs.Common.{◌≤◌}
use Rattle.hm_check.specs.Sweeps.{IsSwept}
use Rattle.hm_check.proofs.sweep.Sweep.read_on.Given as goal

abbrev pub invariant-loop-layer : goal.invariant-loop-layer
invariant-loop-layer l = record {
  swept : IsSwept l.graph l.prices l.layer l.self;
  low : l.front ≤ l.layer;
  high : l.layer ≤ l.from;
}

abbrev pub decreases-loop-layer : goal.decreases-loop-layer
decreases-loop-layer l = l.layer
