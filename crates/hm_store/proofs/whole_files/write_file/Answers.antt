use Rattle.std.proofs.Common.{rules, ap, ◌∙◌, inr}
use Rattle.hm_store.specs.Files.{with_more, HasFront}
use Rattle.hm_store.proofs.FileLemmas.{put_first, front_put, front_all}
use Rattle.hm_store.proofs.ResultLemmas.{on_ok, on_err}
use Rattle.hm_store.proofs.whole_files.write_file.Goals as goal

pub returns-in-Ok-clause-ok : goal.returns-in-Ok-clause-ok
returns-in-Ok-clause-ok g c =
    on_ok c.close_out.result (c.close_out.ensures.same ∙ c.in-Ok.ensures.ok
    ∙ ap (λ o. with_more o (g.S.Store.target c.open_out.new.self) c.args.bytes.now) c.in_ok-open_out.ensures.ok
    ∙ put_first (g.S.Store.files c.args.store.now) c.args.name.now (g.S.Store.target c.open_out.new.self) c.args.bytes.now c.in_ok-open_out.ensures.named)

pub returns-in-Ok-clause-err : goal.returns-in-Ok-clause-err
returns-in-Ok-clause-err g c =
    on_err c.close_out.result (inr (front_all (g.S.Store.files c.args.store.now) (g.S.Store.files c.close_out.new.self) c.args.name.now c.args.bytes.now
    (c.close_out.ensures.same ∙ c.in-Ok.ensures.ok
    ∙ ap (λ o. with_more o (g.S.Store.target c.open_out.new.self) c.args.bytes.now) c.in_ok-open_out.ensures.ok
    ∙ put_first (g.S.Store.files c.args.store.now) c.args.name.now (g.S.Store.target c.open_out.new.self) c.args.bytes.now c.in_ok-open_out.ensures.named)))

pub returns-in-Err-clause-err : goal.returns-in-Err-clause-err
returns-in-Err-clause-err g c =
    let front : HasFront (g.S.Store.files c.args.store.now) (g.S.Store.files c.put.new.self) c.args.name.now c.args.bytes.now =
    front_put (g.S.Store.files c.args.store.now) (g.S.Store.files c.open_out.new.self) (g.S.Store.files c.put.new.self) c.args.name.now (g.S.Store.target c.open_out.new.self) c.args.bytes.now
    c.in_ok-open_out.ensures.ok c.in_ok-open_out.ensures.named c.in-Err.ensures.err in
    search rules
