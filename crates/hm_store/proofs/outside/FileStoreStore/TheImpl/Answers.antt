use Rattle.std.proofs.Common.{refl, ap, inl, is_some}
use Rattle.hm_store.proofs.EdgeLemmas.{opened, never_absent, none_opens, none_pulls, at_ok, at_err}
use Rattle.hm_store.proofs.ResultLemmas.{on_ok, on_err}
use Rattle.hm_store.proofs.outside.FileStoreStore.TheImpl.Goals as goal

pub open_in-tells : goal.open_in-tells
open_in-tells = λ g c. record {
  same = refl;
  reads = opened c.result (is_some c.new.self.now.reading) c.ensures.reads c.ensures.found;
  named = λ _ h. absurd (cc);
  opens = none_opens c.args.name.now c.result;
  absent = never_absent c.result c.ensures.found;
  writes = ap is_some c.ensures.writes;
  target = refl;
  cause = c.ensures.cause;
}

pub pull-tells : goal.pull-tells
pull-tells = λ g c. record {
  same = refl;
  reads = c.ensures.reads;
  named = refl;
  bound = c.ensures.bound;
  bytes = none_pulls c.result c.new.into.now;
  place = on_err c.result refl;
  writes = ap is_some c.ensures.writes;
  target = refl;
  cause = c.ensures.cause;
}

pub open_out-tells : goal.open_out-tells
open_out-tells = λ g c. record {
  ok = on_ok c.result refl;
  writes = at_ok c.result (is_some c.new.self.now.writing) c.ensures.writes;
  named = on_ok c.result (λ h. absurd (cc));
  err = on_err c.result (inl refl);
  idle = at_err c.result (is_some c.new.self.now.writing) c.ensures.writes;
  reads = ap is_some c.ensures.reads;
  source = refl;
  cause = c.ensures.cause;
}

pub put-tells : goal.put-tells
put-tells = λ g c. record {
  ok = on_ok c.result refl;
  err = on_err c.result (inl refl);
  writes = c.ensures.writes;
  named = refl;
  reads = ap is_some c.ensures.reads;
  source = refl;
  cause = c.ensures.cause;
}

pub close_out-tells : goal.close_out-tells
close_out-tells = λ g c. record {
  same = refl;
  idle = ap is_some c.ensures.idle;
  reads = ap is_some c.ensures.reads;
  source = refl;
  rest = refl;
  cause = c.ensures.cause;
}
