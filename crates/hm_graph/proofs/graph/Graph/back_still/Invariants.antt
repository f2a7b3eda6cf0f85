use Rattle.std.proofs.Common.{◌-◌, ◌*◌, ◌<◌, ◌≤◌, ◌^◌, drop}
use Rattle.hm_graph.specs.Graphs.{IsPlace}
use Rattle.hm_graph.specs.StillRuns.{AreStillOver}
use Rattle.hm_graph.proofs.graph.Graph.back_still.Given as goal

abbrev pub invariant-loop-front : goal.invariant-loop-front
invariant-loop-front l = record {
  place : IsPlace l.self l.front;
  low : l.front.layer ≤ l.fn.at.layer;
  first : 0 < l.fn.at.layer → 0 < l.front.layer;
  still : AreStillOver l.self.source.format (drop l.front.layer l.self.steps) (l.fn.at.layer - l.front.layer) l.width l.len;
  bytes : l.len ≤ (l.fn.at.layer - l.front.layer) * 2 ^ 33;
}

abbrev pub decreases-loop-front : goal.decreases-loop-front
decreases-loop-front l = l.front.layer
