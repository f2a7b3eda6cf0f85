use Rattle.std.proofs.Common.{true, false, Ok, Err, ap, sym, ◌∙◌}
use Rattle.std.proofs.lemmas.Result.{err_from_is_err_and}
use Rattle.hm_elements.specs.Classes.{holds_nothing}
use Rattle.hm_elements.specs.declared.kind.Kind.{Kind}
use Rattle.hm_open_elements.specs.Elements.{path_of}
use Rattle.hm_open_elements.proofs.Classes.{class_refused, class_root, class_known, other_than_void}
use Rattle.hm_open_elements.proofs.Elements.{IsPath-take}
use Rattle.hm_open_elements.proofs.Plans.{html_opens, html_plan}
use Rattle.hm_open_elements.proofs.Starts.{html_refused, html_root}
use Rattle.hm_open_elements.proofs.plan.plan_in_html.Goals as goal

pub returns-in-Refused-clause-rule : goal.returns-in-Refused-clause-rule
returns-in-Refused-clause-rule c = html_refused c.args.tag.name.now (path_of c.args.elements.now) c.requires.html (class_refused c.args.tag.name.now (sym c.in-Refused.is ∙ ap (λ (k : Kind). k.class) c.kind.ensures))

pub returns-in-Root-clause-rule : goal.returns-in-Root-clause-rule
returns-in-Root-clause-rule c =
    let root = class_root c.args.tag.name.now (sym c.in-Root.is ∙ ap (λ (k : Kind). k.class) c.kind.ensures) in html_root c.args.tag.name.now (path_of c.args.elements.now) c.requires.html root.0 root.1

pub made_before-requires : goal.made_before-requires
made_before-requires c =
    let left = c.left_by_start-left.ensures in
    IsPath-take c.args.elements.now c.left_by_start-left.result c.requires.path left.least left.most

pub returns-in_err-made : goal.returns-in_err-made
returns-in_err-made c =
    let p = err_from_is_err_and c.from_residual.result c.from_residual.ensures.1 in
    let known = class_known c.args.tag.name.now c.kind.result.now.class (ap (λ (k : Kind). k.class) c.kind.ensures) c.in_default.not-Refused c.in_default.not-Root in
    rw (p.1, p.2) (record {
      ok = tt;
      rule = html_opens c.args.elements.now c.args.tag.name.now c.left_by_start-left.result (Err c.in_err-made.field-0.0) c.requires.html known.not_refused known.not_root c.left_by_start-left.ensures.left c.in_err-made.ensures.opens;
    })

pub returns-in-Void : goal.returns-in-Void
returns-in-Void c =
    let os = c.args.elements.now in
    let n = c.args.tag.name.now in
    let known = class_known n c.kind.result.now.class (ap (λ (k : Kind). k.class) c.kind.ensures) c.in_default.not-Refused c.in_default.not-Root in
    let left = c.left_by_start-left.ensures in
    let opens = html_opens os n c.left_by_start-left.result (Ok c.in_ok-made.made) c.requires.html known.not_refused known.not_root left.left c.in_ok-made.ensures.opens in
    record {
      ok = html_plan os n c.left_by_start-left.result c.in_ok-made.made true c.requires.html opens left.least left.most left.left c.in_ok-made.ensures.room (known.void ∙ ap holds_nothing c.in-Void.is);
      rule = tt;
    }

pub returns-in_default-matches : goal.returns-in_default-matches
returns-in_default-matches c =
    let os = c.args.elements.now in
    let n = c.args.tag.name.now in
    let known = class_known n c.kind.result.now.class (ap (λ (k : Kind). k.class) c.kind.ensures) c.in_default.not-Refused c.in_default.not-Root in
    let left = c.left_by_start-left.ensures in
    let opens = html_opens os n c.left_by_start-left.result (Ok c.in_ok-made.made) c.requires.html known.not_refused known.not_root left.left c.in_ok-made.ensures.opens in
    record {
      ok = html_plan os n c.left_by_start-left.result c.in_ok-made.made false c.requires.html opens left.least left.most left.left c.in_ok-made.ensures.room (known.void ∙ other_than_void c.kind.result.now.class c.in_default-matches.not-Void);
      rule = tt;
    }
