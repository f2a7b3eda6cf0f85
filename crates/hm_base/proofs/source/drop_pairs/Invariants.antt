use Rattle.std.proofs.Common.{◌≡◌, ◌≤◌, ◌++◌, length, take, drop}
use Rattle.hm_base.specs.Places.{pairs_after}
use Rattle.hm_base.proofs.source.drop_pairs.Given as goal

-- those that are kept so far, and those still to be looked at
abbrev pub invariant-loop-i : goal.invariant-loop-i
invariant-loop-i l = record {
  kept : l.kept ≤ l.i;
  len : length l.pairs.items ≡ length l.initial.pairs.items;
  same : take l.kept l.pairs.items ++ pairs_after l.n (drop l.i l.pairs.items) ≡ pairs_after l.n l.initial.pairs.items;
}
