use Rattle.std.proofs.Common.{◌≡◌, drop}
use Rattle.std.specs.List.{list_any}
use Rattle.hm_spelling_spec.specs.Characters.{is_barred}
use Rattle.hm_graph.proofs.values.has_barred.Given as goal

abbrev pub invariant-loop-byte : goal.invariant-loop-byte
invariant-loop-byte l = list_any is_barred (drop l.byte-index l.bytes) ≡ list_any is_barred l.bytes
