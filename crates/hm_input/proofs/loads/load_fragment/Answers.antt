use Rattle.std.proofs.Common.{rules, ◌≡◌, ◌+◌, ◌-◌, ◌≤◌, ap, length, drop, refl, subst, arith}
use Rattle.std.specs.Io.{StartsWith}
use Rattle.hm_base.specs.declared.limits.TheConstants.{PAGE_LIMIT}
use Rattle.hm_fragment.specs.Frames.{front, unframed}
use Rattle.hm_input.specs.Loads.{IsLoaded}
use Rattle.hm_input.proofs.Loaded.{fragment_of_bytes, framed_loaded, given_on, long_fragment_of, no_fragment_of_bytes, page_length}
use Rattle.hm_input.proofs.loads.load_fragment.Goals as goal
use Rattle.hm_store.specs.Files.{Takes, file_of}

pub returns-then-bytes-clause-err : goal.returns-then-bytes-clause-err
returns-then-bytes-clause-err g c =
    let told = g.S.Store.files c.args.store.now in
    let items = c.in_ok-page.page.items in
    let begins : StartsWith items front = subst (λ f. StartsWith items f) c.front.ensures c.in_ok-page.ensures.front in
    let loaded : IsLoaded told c.args.name.now PAGE_LIMIT (unframed items) = framed_loaded told c.args.name.now PAGE_LIMIT items
    (subst (λ f. Takes (file_of told c.args.name.now) (PAGE_LIMIT + 1) (drop (length f) items)) c.front.ensures c.in_ok-page.ensures.loaded)
    (subst (λ f. length items ≤ length f + (PAGE_LIMIT + 1)) c.front.ensures c.in_ok-page.ensures.within) (c.in_ok-page.ensures.there refl) in
    let l = page_length items begins in
    let n : c.len.result ≡ length items = search rules in
    let f : length c.front-2.result.now ≡ 21 = ap length c.front-2.ensures in
    long_fragment_of told c.args.name.now c.args.table.now.entries (unframed items) loaded (let more = c.if-bytes.true in omega (arith, l, n, f, more))

pub returns-in_err-tree-clause-err : goal.returns-in_err-tree-clause-err
returns-in_err-tree-clause-err g c =
    let told = g.S.Store.files c.args.store.now in
    let items = c.in_ok-page.page.items in
    let begins : StartsWith items front = subst (λ f. StartsWith items f) c.front.ensures c.in_ok-page.ensures.front in
    let loaded : IsLoaded told c.args.name.now PAGE_LIMIT (unframed items) = framed_loaded told c.args.name.now PAGE_LIMIT items
    (subst (λ f. Takes (file_of told c.args.name.now) (PAGE_LIMIT + 1) (drop (length f) items)) c.front.ensures c.in_ok-page.ensures.loaded)
    (subst (λ f. length items ≤ length f + (PAGE_LIMIT + 1)) c.front.ensures c.in_ok-page.ensures.within) (c.in_ok-page.ensures.there refl) in
    let l = page_length items begins in
    let n : c.len.result ≡ length items = search rules in
    let f : length c.front-2.result.now ≡ 21 = ap length c.front-2.ensures in
    let short : length (unframed items) ≤ PAGE_LIMIT = (let less = c.if-bytes.false in omega (arith, l, n, f, less)) in
    given_on c.from_residual-in_err-tree.result _ _ c.from_residual-in_err-tree.ensures.1
    (no_fragment_of_bytes told c.args.name.now c.args.table.now.entries (unframed items) c.in_err-tree.field-0.0 loaded short c.in_err-tree.ensures.err)

pub returns-clause-ok : goal.returns-clause-ok
returns-clause-ok g c =
    let told = g.S.Store.files c.args.store.now in
    let items = c.in_ok-page.page.items in
    let begins : StartsWith items front = subst (λ f. StartsWith items f) c.front.ensures c.in_ok-page.ensures.front in
    let loaded : IsLoaded told c.args.name.now PAGE_LIMIT (unframed items) = framed_loaded told c.args.name.now PAGE_LIMIT items
    (subst (λ f. Takes (file_of told c.args.name.now) (PAGE_LIMIT + 1) (drop (length f) items)) c.front.ensures c.in_ok-page.ensures.loaded)
    (subst (λ f. length items ≤ length f + (PAGE_LIMIT + 1)) c.front.ensures c.in_ok-page.ensures.within) (c.in_ok-page.ensures.there refl) in
    let l = page_length items begins in
    let n : c.len.result ≡ length items = search rules in
    let f : length c.front-2.result.now ≡ 21 = ap length c.front-2.ensures in
    let short : length (unframed items) ≤ PAGE_LIMIT = (let less = c.if-bytes.false in omega (arith, l, n, f, less)) in
    let all : c.len.result - length c.front-2.result.now ≡ length (unframed items) = omega (arith, l, n, f) in
    fragment_of_bytes told c.args.name.now c.args.table.now.entries (unframed items) c.in_ok-tree.tree _ loaded short all c.in_ok-tree.ensures.ok
