use Rattle.std.proofs.Common.{◌≡◌, drop}
use Rattle.std.specs.declared.option.Option.{Option}
use Rattle.hm_store.specs.Files.{FileMap}
use Rattle.hm_minify.specs.Writes.{after_writes, IsLeft}
use Rattle.hm_minify.proofs.saved.save.Given as goal

abbrev pub invariant-loop-output : goal.invariant-loop-output
invariant-loop-output g l = record {
  whole : after_writes (g.S.Store.files l.store) (drop l.output-index l.outputs) ≡ after_writes (g.S.Store.files l.initial.store) l.outputs;
  left : (new : Option FileMap) → IsLeft (g.S.Store.files l.store) (drop l.output-index l.outputs) new → IsLeft (g.S.Store.files l.initial.store) l.outputs new;
  steady : g.S.Store.faults l.store ≡ g.S.Store.faults l.initial.store;
}
