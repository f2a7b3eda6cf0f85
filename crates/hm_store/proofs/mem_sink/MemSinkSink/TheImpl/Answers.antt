use Rattle.std.proofs.Common.{rules}
use Rattle.hm_store.specs.Tears.{tear_next}
use Rattle.hm_store.proofs.TearLemmas.{appends_torn}
use Rattle.hm_store.proofs.mem_sink.MemSinkSink.TheImpl.Goals as goal

pub put-tells : goal.put-tells
put-tells = λ c. record {
  ok = search rules;
  err = appends_torn c.result c.args.self.now.bytes c.new.self.now.bytes c.args.bytes.now (tear_next c.args.self.now.tears) c.ensures.err;
  cause = c.ensures.cause;
}
