use Rattle.std.proofs.Common.{◌≡◌, ◌∙◌, true, false}
use Rattle.hm_open_elements.proofs.Ends.{in_svg_by, reached_in_svg, reached_in_html}
use Rattle.hm_open_elements.proofs.plan.reached_by_end.Goals as goal

pub returns-then-elements : goal.returns-then-elements
returns-then-elements c =
    let o = c.index-elements-elements.result in
    let foreign : o.foreign ≡ true = cc in
    reached_in_svg c.args.elements.now c.args.name.now (in_svg_by c.args.elements.now o c.index-elements-elements.is c.requires ∙ foreign) c.requires

pub returns-else-elements : goal.returns-else-elements
returns-else-elements c =
    let o = c.index-elements-elements.result in
    let foreign : o.foreign ≡ false = cc in
    let reached = c.left_by_implied_ends.ensures in
    reached_in_html c.args.elements.now c.args.name.now c.left_by_implied_ends.result (in_svg_by c.args.elements.now o c.index-elements-elements.is c.requires ∙ foreign) reached.least reached.most reached.left
