use Rattle.std.proofs.Common.{◌≡◌, true, false, sym, ◌∙◌}
use Rattle.hm_open_elements.specs.Elements.{name_of}
use Rattle.hm_open_elements.proofs.Ends.{in_svg_by}
use Rattle.hm_open_elements.proofs.Plans.{current_by}
use Rattle.hm_open_elements.proofs.plan.plan_start.Goals as goal

pub plan_in_svg-requires-clause-svg : goal.plan_in_svg-requires-clause-svg
plan_in_svg-requires-clause-svg c =
    let o = c.index-elements-elements.result in
    let foreign : o.foreign ≡ true = cc in
    in_svg_by c.args.elements.now o c.index-elements-elements.is c.requires ∙ foreign

pub plan_in_svg-requires-clause-current : goal.plan_in_svg-requires-clause-current
plan_in_svg-requires-clause-current c =
    let o = c.index-elements-elements.result in
    let named : c.as_str.result.now ≡ name_of o.name = cc in
    named ∙ sym (current_by c.args.elements.now o c.requires c.index-elements-elements.is)

pub plan_in_html-requires-clause-html : goal.plan_in_html-requires-clause-html
plan_in_html-requires-clause-html c =
    let o = c.index-elements-elements.result in
    let foreign : o.foreign ≡ false = cc in
    in_svg_by c.args.elements.now o c.index-elements-elements.is c.requires ∙ foreign
