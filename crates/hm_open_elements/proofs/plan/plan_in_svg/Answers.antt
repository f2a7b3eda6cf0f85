use Rattle.std.proofs.Common.{◌≡◌, true, false, ◌∙◌, arith}
use Rattle.hm_elements.specs.Tables.{is_svg_name, is_boundary}
use Rattle.hm_elements.specs.Paths.{current}
use Rattle.hm_open_elements.specs.Elements.{path_of}
use Rattle.hm_open_elements.proofs.Elements.{length-path_of}
use Rattle.hm_open_elements.proofs.Starts.{svg_unknown, svg_text, svg_too_deep}
use Rattle.hm_open_elements.proofs.Plans.{boundary_in_svg, svg_plan}
use Rattle.hm_open_elements.proofs.plan.plan_in_svg.Goals as goal

pub returns-then-not-svg_name-clause-rule : goal.returns-then-not-svg_name-clause-rule
returns-then-not-svg_name-clause-rule c =
    let known : is_svg_name c.args.name.now ≡ false = cc in svg_unknown c.args.name.now (path_of c.args.elements.now) c.requires.svg known

pub returns-then-is_boundary-clause-rule : goal.returns-then-is_boundary-clause-rule
returns-then-is_boundary-clause-rule c =
    let known : is_svg_name c.args.name.now ≡ true = cc in
    let boundary : is_boundary (current (path_of c.args.elements.now)) true ≡ true = cc in
    svg_text c.args.name.now (path_of c.args.elements.now) c.requires.svg known (boundary_in_svg (current (path_of c.args.elements.now)) ∙ boundary)

pub returns-then-elements-eq-DEEPEST-clause-rule : goal.returns-then-elements-eq-DEEPEST-clause-rule
returns-then-elements-eq-DEEPEST-clause-rule c =
    let known : is_svg_name c.args.name.now ≡ true = cc in
    let boundary : is_boundary (current (path_of c.args.elements.now)) true ≡ false = cc in
    svg_too_deep c.args.name.now (path_of c.args.elements.now) c.requires.svg known (boundary_in_svg (current (path_of c.args.elements.now)) ∙ boundary) (omega (arith, length-path_of c.args.elements.now))

pub returns-clause-ok : goal.returns-clause-ok
returns-clause-ok c =
    let known : is_svg_name c.args.name.now ≡ true = cc in
    let boundary : is_boundary (current (path_of c.args.elements.now)) true ≡ false = cc in
    svg_plan c.args.elements.now c.args.name.now c.requires.path c.requires.svg known (boundary_in_svg (current (path_of c.args.elements.now)) ∙ boundary) (omega (arith, c.requires.path.most))
