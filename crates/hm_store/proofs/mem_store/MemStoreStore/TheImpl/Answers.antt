use Rattle.std.proofs.Common.{rules}
use Rattle.hm_store.specs.MemStore.{target_of}
use Rattle.hm_store.specs.Tears.{tear_next}
use Rattle.hm_store.proofs.MemStoreLemmas.{pulls, stays_in_place}
use Rattle.hm_store.proofs.TearLemmas.{puts_torn}
use Rattle.hm_store.proofs.mem_store.MemStoreStore.TheImpl.Goals as goal

pub pull-tells : goal.pull-tells
pull-tells = λ c. record {
  same = search rules;
  reads = search rules;
  named = search rules;
  bound = c.ensures.bound;
  bytes = pulls c.args.self.now.files c.args.self.now.reading c.result c.new.self.now _ _ _ c.ensures.after c.new.into.now c.args.into.now c.requires c.ensures.count c.ensures.copied;
  place = stays_in_place c.args.self.now.files c.args.self.now.reading c.result c.new.self.now _ _ _ c.ensures.after;
  writes = search rules;
  target = search rules;
  cause = c.ensures.cause;
}

pub put-tells : goal.put-tells
put-tells = λ c. record {
  ok = search rules;
  err = puts_torn c.result c.args.self.now.files c.new.self.now.files (target_of c.args.self.now.writing) c.args.bytes.now (tear_next c.args.self.now.tears) c.ensures.err;
  writes = search rules;
  named = search rules;
  reads = search rules;
  source = search rules;
  cause = c.ensures.cause;
}
