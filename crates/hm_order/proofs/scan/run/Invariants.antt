use Rattle.std.proofs.Common.{◌≡◌, drop, Some}
use Rattle.hm_edges.specs.States.{HasNodes, pending_of}
use Rattle.hm_graph_laws.specs.Steps.{run}
use Rattle.hm_spelling_spec.specs.Characters.{double}
use Rattle.hm_order.proofs.scan.run.Given as goal

abbrev pub invariant-loop-byte : goal.invariant-loop-byte
invariant-loop-byte l = record {
  ahead : run l.table.entries double (Some (pending_of l.table l.after)) (drop l.byte-index l.bytes) ≡ run l.table.entries double (Some (pending_of l.table l.fn.pending)) l.bytes;
  nodes : HasNodes l.table l.after;
}
