use Rattle.std.proofs.Common.{◌≡◌, drop, Some}
use Rattle.hm_graph_laws.specs.Steps.{run}
use Rattle.hm_edges.specs.States.{HasNodes, pending_of, spot_of}
use Rattle.hm_edges.proofs.characters.run.Given as goal

abbrev pub invariant-loop-byte : goal.invariant-loop-byte
invariant-loop-byte l = record {
  ahead : run l.table.entries (spot_of l.spot) (Some (pending_of l.table l.after)) (drop l.byte-index l.bytes) ≡ run l.table.entries (spot_of l.spot) (Some (pending_of l.table l.fn.pending)) l.bytes;
  nodes : HasNodes l.table l.after;
}
