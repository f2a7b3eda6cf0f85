use Rattle.std.proofs.Common.{◌≡◌, ◌⊎◌, false, Result, Ok, Err, refl, ap, subst}
use Rattle.hm_store.specs.Causes.{Rose}
use Rattle.hm_store.specs.Files.{IsMissing}
use Rattle.hm_words.specs.Answers.{origin_of}
use Rattle.hm_words.specs.Words.{is_table_word}
use Rattle.hm_input.specs.Loads.{IsTableOf, NoTable}
use Rattle.hm_input.proofs.Origins.{input_after_reading, no_origin_table, none_follows, page_cause, table_cause}
use Rattle.hm_input.proofs.input.load_input.Goals as goal

err_is : {T E : Type 0} {x y : E} (r : Result T E) → r ≡ Err x → r ≡ Err y → x ≡ y
err_is (Ok v) e f = cc
err_is (Err z) e f = cc

pub returns-in-Ok-load_rewritten-clause-ok : goal.returns-in-Ok-load_rewritten-clause-ok
returns-in-Ok-load_rewritten-clause-ok g c =
    let told = g.S.Store.files c.args.store.now in
    input_after_reading told _ (origin_of c.args.origin.now) c.args.options.now c.in-Ok.table.entries c.in-Ok-load_rewritten.tree c.in-Ok-load_rewritten.bytes c.in-Ok.ensures.same c.requires.apart
    (subst (λ name. IsTableOf told name (Ok c.in-Ok.table.entries)) c.table_of.ensures c.in-Ok.ensures.ok) c.in-Ok-load_rewritten.ensures.ok

pub returns-in-Err-load_rewritten-clause-err : goal.returns-in-Err-load_rewritten-clause-err
returns-in-Err-load_rewritten-clause-err g c =
    let told = g.S.Store.files c.args.store.now in
    none_follows told _ (origin_of c.args.origin.now) c.args.options.now c.in-Ok.table.entries c.in-Err-load_rewritten.unread c.in-Ok.ensures.same c.requires.apart
    (subst (λ name. IsTableOf told name (Ok c.in-Ok.table.entries)) c.table_of.ensures c.in-Ok.ensures.ok) c.in-Err-load_rewritten.ensures.err

pub returns-in-Err-clause-err : goal.returns-in-Err-clause-err
returns-in-Err-clause-err g c =
    let told = g.S.Store.files c.args.store.now in
    no_origin_table told (origin_of c.args.origin.now) c.args.options.now c.in-Err.unread c.requires.apart (subst (λ name. NoTable told name c.in-Err.unread) c.table_of.ensures c.in-Err.ensures.err)

pub returns-in-Err-load_rewritten-clause-store : goal.returns-in-Err-load_rewritten-clause-store
returns-in-Err-load_rewritten-clause-store g c = λ e.
    let told = g.S.Store.files c.args.store.now in
    page_cause told _ (origin_of c.args.origin.now) c.args.options.now c.in-Ok.table.entries _ _ _ c.in-Ok.ensures.same c.in-Ok.ensures.later
    (subst (λ name. IsTableOf told name (Ok c.in-Ok.table.entries)) c.table_of.ensures c.in-Ok.ensures.ok) (c.in-Err-load_rewritten.ensures.store (ap Err (err_is _ refl e)))

pub returns-in-Err-clause-store : goal.returns-in-Err-clause-store
returns-in-Err-clause-store g c = λ e.
    let told = g.S.Store.files c.args.store.now in
    table_cause told (origin_of c.args.origin.now) c.args.options.now _ _
    (subst (λ name. Rose (g.S.Store.faults c.args.store.now) (g.S.Store.faults c.load_table.new.store) ⊎ ((is_table_word name ≡ false) × IsMissing told name)) c.table_of.ensures (c.in-Err.ensures.store (ap Err (err_is _ refl e))))
