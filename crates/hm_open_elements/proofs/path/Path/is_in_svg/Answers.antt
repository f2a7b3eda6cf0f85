use Rattle.std.proofs.Common.{◌≡◌, ◌-◌, length, get_or, sym, ap, ◌∙◌, arith}
use Rattle.hm_elements.specs.Paths.{is_in_svg}
use Rattle.hm_open_elements.proofs.Ends.{in_svg_by}
use Rattle.hm_open_elements.proofs.path.Path.is_in_svg.Goals as goal

pub returns : goal.returns
returns c =
    let os = c.self.inside.elements.items in
    let o = c.index.result.now in
    let len : c.len.result ≡ length os = omega (arith, c.len.ensures) in
    let at : o ≡ get_or os (length os - 1) o = rw len at c.index.ensures in
    sym (in_svg_by os o at c.self.invariant.path) ∙ ap is_in_svg c.self.view_is
