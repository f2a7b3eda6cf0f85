use Rattle.std.proofs.Common.{◌∙◌, inr, arith}
use Rattle.hm_page_loading.proofs.Loaded.{more_taken, taken_all, taken_at_end}
use Rattle.hm_page_loading.proofs.page.pull_all.Goals as goal

pub loop-bytes-preserved : goal.loop-bytes-preserved
loop-bytes-preserved g c =
    let i = c.loop-bytes.invariant in
    let pulled = c.in_ok-count.ensures in
    record {
      same = pulled.same ∙ i.same;
      reading = pulled.reading;
      writing = pulled.writing ∙ i.writing;
      target = pulled.target ∙ i.target;
      names = pulled.names ∙ i.names;
      limit = pulled.limit ∙ i.limit;
      under_way = more_taken c.loop-bytes.builder c.pull_more.new.builder (g.S.Store.rest c.args.store.now) (g.S.Store.rest c.loop-bytes.store) (g.S.Store.rest c.pull_more.new.store) c.loop-bytes.bytes c.in_ok-count.count i.under_way pulled.taken;
      within = omega (arith, pulled.within, c.loop-bytes-test.true);
      steady = pulled.steady ∙ i.steady;
      piece = pulled.piece ∙ i.piece;
    }

pub returns-then-count-eq0-clause-taken : goal.returns-then-count-eq0-clause-taken
returns-then-count-eq0-clause-taken g c =
    let i = c.loop-bytes.invariant in
    taken_at_end c.loop-bytes.builder c.pull_more.new.builder (g.S.Store.rest c.args.store.now) (g.S.Store.rest c.loop-bytes.store) (g.S.Store.rest c.pull_more.new.store) c.args.limit c.loop-bytes.bytes c.in_ok-count.count
    i.under_way c.in_ok-count.ensures.taken c.if-count-eq0.true i.within

pub returns-after-loop-bytes-clause-taken : goal.returns-after-loop-bytes-clause-taken
returns-after-loop-bytes-clause-taken g c =
    let i = c.loop-bytes.invariant in
    taken_all c.loop-bytes.builder (g.S.Store.rest c.args.store.now) (g.S.Store.rest c.loop-bytes.store) c.args.limit c.loop-bytes.bytes i.under_way i.within (inr (omega (arith, i.within, c.loop-bytes-test.false)))
