use Rattle.std.proofs.Common.{◌+◌, ◌-◌, ◌≡◌, ◌≤◌, [], length, take, true}
use Rattle.std.specs.Io.KnownBytes.{prepend_known}
use Rattle.hm_store.proofs.whole_files.pull_over.Given as goal

abbrev pub invariant-loop-at : goal.invariant-loop-at
invariant-loop-at g l = record {
  same : g.S.Store.files l.store ≡ g.S.Store.files l.initial.store;
  reading : g.S.Store.is_reading l.store ≡ true;
  writing : g.S.Store.is_writing l.store ≡ g.S.Store.is_writing l.initial.store;
  target : g.S.Store.target l.store ≡ g.S.Store.target l.initial.store;
  whole : prepend_known (take l.at l.bytes.items) (g.S.Store.rest l.store) ≡ prepend_known [] (g.S.Store.rest l.initial.store);
  there : l.at ≤ length l.bytes.items;
  most : l.at ≤ l.limit + 1;
  expected : l.is_expected ≡ true → l.bytes.items ≡ l.initial.bytes.items;
  steady : g.S.Store.faults l.store ≡ g.S.Store.faults l.initial.store;
  piece : length l.piece ≡ 65536;
}

abbrev pub decreases-loop-at : goal.decreases-loop-at
decreases-loop-at g l = l.limit + 1 - l.at
