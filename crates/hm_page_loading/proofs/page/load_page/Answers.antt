use Rattle.std.proofs.Common.{◌∙◌, Err, ap, inl, subst}
use Rattle.hm_store.specs.Causes.{Rose}
use Rattle.hm_page_loading.proofs.Loaded.{from_store, given_on, no_load, no_page_tree, page_tree}
use Rattle.hm_page_loading.proofs.page.load_page.Goals as goal

pub returns-in_err-bytes-clause-err : goal.returns-in_err-bytes-clause-err
returns-in_err-bytes-clause-err g c = given_on c.from_residual-in_err-bytes.result _ _ c.from_residual-in_err-bytes.ensures.1
    (no_load (g.S.Store.files c.args.store.now) c.args.name.now c.args.table.now.entries c.in_err-bytes.field-0.0)

pub returns-in_err-bytes-clause-store : goal.returns-in_err-bytes-clause-store
returns-in_err-bytes-clause-store g c = from_store c.from_residual-in_err-bytes.result c.in_err-bytes.field-0.0 c.from_residual-in_err-bytes.ensures.1
    (λ store. inl (subst (λ n. Rose n (g.S.Store.faults c.pull_all.new.store)) c.in-Ok-true.ensures.cause.steady (c.in_err-bytes.ensures.failed (ap Err store))))

pub returns-in_err-tree-clause-err : goal.returns-in_err-tree-clause-err
returns-in_err-tree-clause-err g c =
    let opened = c.in-Ok-true.ensures.opens c.in-Ok-true.field-0-test in
    given_on c.from_residual-in_err-tree.result _ _ c.from_residual-in_err-tree.ensures.1
    (no_page_tree (g.S.Store.files c.args.store.now) c.args.name.now (g.S.Store.rest c.open_in.new.self) c.args.table.now.entries c.pull_all.new.builder c.in_ok-bytes.bytes opened.0 opened.1 c.in_ok-bytes.ensures.taken
    (c.in_ok-bytes.ensures.names ∙ c.in_ok-builder.ensures.names) (c.in_ok-bytes.ensures.limit ∙ c.in_ok-builder.ensures.limit) c.in_err-tree.field-0.0 c.in_err-tree.ensures.refused)

pub returns-clause-ok : goal.returns-clause-ok
returns-clause-ok g c =
    let opened = c.in-Ok-true.ensures.opens c.in-Ok-true.field-0-test in
    page_tree (g.S.Store.files c.args.store.now) c.args.name.now (g.S.Store.rest c.open_in.new.self) c.args.table.now.entries c.pull_all.new.builder c.in_ok-bytes.bytes opened.0 opened.1 c.in_ok-bytes.ensures.taken
    (c.in_ok-bytes.ensures.names ∙ c.in_ok-builder.ensures.names) (c.in_ok-bytes.ensures.limit ∙ c.in_ok-builder.ensures.limit) c.in_ok-tree.tree c.in_ok-tree.ensures.built

pub returns-clause-settled : goal.returns-clause-settled
returns-clause-settled g c =
    let all = c.in_ok-bytes.ensures.taken in
    c.in_ok-tree.ensures.settled all.taken all.has
