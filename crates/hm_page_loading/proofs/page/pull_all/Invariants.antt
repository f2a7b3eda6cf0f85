use Rattle.std.proofs.Common.{◌≡◌, ◌-◌, ◌≤◌, length, true}
use Rattle.hm_page_loading.specs.Loading.{IsUnderWay}
use Rattle.hm_page_loading.proofs.page.pull_all.Given as goal

abbrev pub invariant-loop-bytes : goal.invariant-loop-bytes
invariant-loop-bytes g l = record {
  same : g.S.Store.files l.store ≡ g.S.Store.files l.initial.store;
  reading : g.S.Store.is_reading l.store ≡ true;
  writing : g.S.Store.is_writing l.store ≡ g.S.Store.is_writing l.initial.store;
  target : g.S.Store.target l.store ≡ g.S.Store.target l.initial.store;
  names : l.builder.feeding.names ≡ l.initial.builder.feeding.names;
  limit : l.builder.feeding.pieces.limit ≡ l.initial.builder.feeding.pieces.limit;
  under_way : IsUnderWay l.builder (g.S.Store.rest l.initial.store) (g.S.Store.rest l.store) l.bytes;
  within : l.bytes ≤ l.most;
  steady : g.S.Store.faults l.store ≡ g.S.Store.faults l.initial.store;
  piece : length l.piece ≡ 65536;
}

abbrev pub decreases-loop-bytes : goal.decreases-loop-bytes
decreases-loop-bytes g l = l.most - l.bytes
