use Rattle.std.proofs.Common.{◌+◌, ◌≤◌, length, drop, refl, sym, subst}
use Rattle.std.proofs.lemmas.Result.{IfOk-weaker}
use Rattle.hm_base.specs.declared.limits.TheConstants.{CERTIFICATE_LIMIT}
use Rattle.hm_input.specs.Frames.{unframed}
use Rattle.hm_minify.specs.Endings.{fragment_limit}
use Rattle.hm_input.specs.Loads.{IsLoaded}
use Rattle.hm_minify.proofs.Found.{checked_answers, checked_seen, limit_of}
use Rattle.hm_input.proofs.Loaded.{framed_loaded, is_loaded}
use Rattle.hm_minify.proofs.checked.check_fragment.Goals as goal
use Rattle.hm_store.specs.Files.{Takes, file_of}

pub returns-clause-ended : goal.returns-clause-ended
returns-clause-ended g c =
    let told = g.S.Store.files c.args.store.now in
    let after = g.S.Store.files c.load.new.store in
    let items = c.in_ok-page.page.items in
    let page : IsLoaded after c.args.out.now fragment_limit (unframed items) = framed_loaded after c.args.out.now fragment_limit items
    (subst (λ f. Takes (file_of after c.args.out.now) (fragment_limit + 1) (drop (length f) items)) c.front.ensures (subst (λ n. Takes (file_of after c.args.out.now) (n + 1) (drop (length c.front.result.now) items)) c.fragment_limit.ensures c.in_ok-page.ensures.loaded))
    (subst (λ f. length items ≤ length f + (fragment_limit + 1)) c.front.ensures (subst (λ n. length items ≤ length c.front.result.now + (n + 1)) c.fragment_limit.ensures c.in_ok-page.ensures.within))
    (c.in_ok-page.ensures.there refl) in
    let text : IsLoaded told c.args.out.now (limit_of c.args.rules.frame) (unframed items) = subst (λ f. IsLoaded told c.args.out.now (limit_of f) (unframed items)) (sym c.requires.fragment) (subst (λ files. IsLoaded files c.args.out.now fragment_limit (unframed items)) c.in_ok-lines.ensures.same page) in
    let lines : IsLoaded told c.args.cert.now CERTIFICATE_LIMIT c.as_slice.result.now =
    subst (IsLoaded told c.args.cert.now CERTIFICATE_LIMIT) (sym c.as_slice.ensures.value) (is_loaded told c.args.cert.now CERTIFICATE_LIMIT c.in_ok-lines.lines.items c.in_ok-lines.ensures.loaded c.in_ok-lines.ensures.within (c.in_ok-lines.ensures.there refl)) in
    IfOk-weaker c.check_fragment_bytes.result _ _
    (λ ended e. checked_seen told c.args.out.now c.args.cert.now (unframed items) c.as_slice.result.now c.args.rules c.args.input.now.table.entries c.args.input.now.tree ended c.requires.apart text lines e) c.check_fragment_bytes.ensures.ended

pub returns-clause-answers : goal.returns-clause-answers
returns-clause-answers g c = IfOk-weaker c.check_fragment_bytes.result _ _
    (λ ended e. checked_answers c.args.rules c.args.input.now.table.entries c.args.input.now.tree (unframed c.in_ok-page.page.items) c.as_slice.result.now ended e) c.check_fragment_bytes.ensures.ended

pub returns-clause-store : goal.returns-clause-store
returns-clause-store g c = λ is. absurd (c.check_fragment_bytes.ensures.memory is)
