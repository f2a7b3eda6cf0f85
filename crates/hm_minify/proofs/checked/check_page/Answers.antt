use Rattle.std.proofs.Common.{refl, sym, subst}
use Rattle.std.proofs.lemmas.Result.{IfOk-weaker}
use Rattle.hm_base.specs.declared.limits.TheConstants.{CERTIFICATE_LIMIT, OUTPUT_LIMIT}
use Rattle.hm_input.specs.Loads.{IsLoaded}
use Rattle.hm_minify.proofs.Found.{checked_answers, checked_seen, limit_of}
use Rattle.hm_input.proofs.Loaded.{is_loaded}
use Rattle.hm_minify.proofs.checked.check_page.Goals as goal

pub returns-clause-ended : goal.returns-clause-ended
returns-clause-ended g c =
    let told = g.S.Store.files c.args.store.now in
    let after = g.S.Store.files c.load.new.store in
    let lines : IsLoaded told c.args.cert.now CERTIFICATE_LIMIT c.as_slice-3.result.now =
    subst (IsLoaded told c.args.cert.now CERTIFICATE_LIMIT) (sym c.as_slice-3.ensures.value) (is_loaded told c.args.cert.now CERTIFICATE_LIMIT c.in_ok-lines.lines.items c.in_ok-lines.ensures.loaded c.in_ok-lines.ensures.within (c.in_ok-lines.ensures.there refl)) in
    let page : IsLoaded after c.args.out.now OUTPUT_LIMIT c.as_slice-2.result.now = subst (IsLoaded after c.args.out.now OUTPUT_LIMIT) (sym c.as_slice-2.ensures.value) (is_loaded after c.args.out.now OUTPUT_LIMIT c.load_over.new.bytes.items c.in_ok-is_expected.ensures.loaded c.in_ok-is_expected.ensures.within (c.in_ok-is_expected.ensures.there refl)) in
    let text : IsLoaded told c.args.out.now (limit_of c.args.rules.frame) c.as_slice-2.result.now =
    subst (λ files. IsLoaded files c.args.out.now (limit_of c.args.rules.frame) c.as_slice-2.result.now) c.in_ok-lines.ensures.same (subst (λ f. IsLoaded after c.args.out.now (limit_of f) c.as_slice-2.result.now) (sym c.requires.page) page) in
    IfOk-weaker c.check_bytes.result _ _
    (λ ended e. checked_seen told c.args.out.now c.args.cert.now c.as_slice-2.result.now c.as_slice-3.result.now c.args.rules c.args.input.now.table.entries c.args.input.now.tree ended c.requires.apart text lines e) c.check_bytes.ensures.ended

pub returns-clause-answers : goal.returns-clause-answers
returns-clause-answers g c = IfOk-weaker c.check_bytes.result _ _
    (λ ended e. checked_answers c.args.rules c.args.input.now.table.entries c.args.input.now.tree c.as_slice-2.result.now c.as_slice-3.result.now ended e) c.check_bytes.ensures.ended

pub returns-clause-store : goal.returns-clause-store
returns-clause-store g c = λ is. absurd (c.check_bytes.ensures.memory is)
