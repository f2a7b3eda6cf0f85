use Rattle.std.proofs.Common.{◌≡◌, length}
use Rattle.hm_graph.specs.Interned.{AreLone}
use Rattle.hm_graph.proofs.pairs.lone_characters.Given as goal

abbrev pub invariant-loop-c : goal.invariant-loop-c
invariant-loop-c l = record {
  marked : AreLone l.table.entries l.lone.items;
  count : length l.lone.items ≡ l.c;
}
