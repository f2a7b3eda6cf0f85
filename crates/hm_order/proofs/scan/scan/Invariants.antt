use Rattle.std.proofs.Common.{◌≡◌, ◌++◌, Some}
use Rattle.std.specs.Prelude.{encode_utf8_all}
use Rattle.hm_edges.specs.States.{HasNodes, pending_of}
use Rattle.hm_graph_laws.specs.States.{nothing}
use Rattle.hm_spelling_spec.specs.Characters.{double}
use Rattle.hm_order.specs.Weights.{AreEasy, literals, some_barred}
use Rattle.hm_order.proofs.scan.scan.Given as goal

abbrev pub invariant-loop-c : goal.invariant-loop-c
invariant-loop-c l = record {
  given : encode_utf8_all l.yielded ++ l.c-iterator.rest.now ≡ l.value;
  easy : AreEasy l.table.entries l.ascii l.low l.yielded;
  barred : l.seen.barred ≡ some_barred l.yielded;
  pending : literals l.table.entries double (Some nothing) l.yielded ≡ Some (pending_of l.table l.seen.pending);
  nodes : HasNodes l.table l.seen.pending;
}
