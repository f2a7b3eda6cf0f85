use Rattle.std.proofs.Common.{◌≡◌, ◌-◌, ◌+◌, ◌≤◌, length, true}
use Rattle.std.specs.Io.{StartsWith}
use Rattle.std.specs.Io.KnownBytes.{prepend_known}
use Rattle.hm_store.proofs.whole_files.pull_all.Given as goal

abbrev pub invariant-loop-piece : goal.invariant-loop-piece
invariant-loop-piece g l = record {
  same : g.S.Store.files l.store ≡ g.S.Store.files l.initial.store;
  reading : g.S.Store.is_reading l.store ≡ true;
  writing : g.S.Store.is_writing l.store ≡ g.S.Store.is_writing l.initial.store;
  target : g.S.Store.target l.store ≡ g.S.Store.target l.initial.store;
  whole : prepend_known l.bytes.items (g.S.Store.rest l.store) ≡ prepend_known l.front (g.S.Store.rest l.initial.store);
  front : StartsWith l.bytes.items l.front;
  within : length l.bytes.items ≤ l.most + 1;
  steady : g.S.Store.faults l.store ≡ g.S.Store.faults l.initial.store;
  most : l.most ≡ length l.front + l.limit;
  piece : length l.piece ≡ 65536;
}

abbrev pub decreases-loop-piece : goal.decreases-loop-piece
decreases-loop-piece g l = l.most + 1 - length l.bytes.items
