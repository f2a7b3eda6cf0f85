use Rattle.std.proofs.Common.{◌≡◌, ◌∙◌, length, refl, rules, subst}
use Rattle.std.proofs.lemmas.Result.{IfOk-weaker}
use Rattle.hm_base.specs.declared.limits.TheConstants.{PAGE_LIMIT}
use Rattle.hm_input.specs.Loads.{IsLoaded}
use Rattle.hm_input.proofs.Explaining.{found_tree, refusal_found}
use Rattle.hm_input.proofs.Loaded.{is_loaded}
use Rattle.hm_input.proofs.explained.load_explained.Goals as goal

pub returns-in_ok-tree-in-Ok-parse_page-clause-ok : goal.returns-in_ok-tree-in-Ok-parse_page-clause-ok
returns-in_ok-tree-in-Ok-parse_page-clause-ok g c =
    let told = g.S.Store.files c.args.store.now in
    let page = c.in_ok-page.page.items in
    let all : c.len-bytes.result ≡ length page = search rules in (
      found_tree told c.args.table.now c.args.page.now c.args.options.now c.in_ok-table.table.entries page c.in-Ok-parse_page.parsed c.in_ok-tree-in-Ok-parse_page.tree c.len-bytes.result c.requires.apart c.in_ok-table.ensures.ok
          (subst (λ files. IsLoaded files c.args.page.now PAGE_LIMIT page) c.in_ok-table.ensures.same (is_loaded _ c.args.page.now _ page c.in_ok-page.ensures.loaded c.in_ok-page.ensures.within (c.in_ok-page.ensures.there refl)))
          c.in-Ok-parse_page.ensures.built c.in_ok-tree-in-Ok-parse_page.ensures.ok all,
      c.in_ok-tree-in-Ok-parse_page.ensures.settled c.in-Ok-parse_page.ensures.settled,
    )

pub returns-in-Err-clause-ok : goal.returns-in-Err-clause-ok
returns-in-Err-clause-ok g c =
    let told = g.S.Store.files c.args.store.now in
    let page = c.in_ok-page.page.items in
    IfOk-weaker c.refused_found.result _ _
    (λ found h. refusal_found told c.args.table.now c.args.page.now c.args.options.now c.in_ok-table.table.entries page c.in-Ok.kept.items c.in-Err.refused found c.requires.apart c.in_ok-table.ensures.ok
    (subst (λ files. IsLoaded files c.args.page.now PAGE_LIMIT page) c.in_ok-table.ensures.same (is_loaded _ c.args.page.now _ page c.in_ok-page.ensures.loaded c.in_ok-page.ensures.within (c.in_ok-page.ensures.there refl)))
    c.in-Err.ensures.refused (c.in-Ok.ensures.items ∙ c.as_slice.ensures.value) h) c.refused_found.ensures.ok
