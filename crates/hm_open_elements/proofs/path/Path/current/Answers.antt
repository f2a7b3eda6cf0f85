use Rattle.std.proofs.Common.{◌≡◌, ◌-◌, length, get_or, sym, ap, ◌∙◌, arith}
use Rattle.hm_elements.specs.Paths.{current}
use Rattle.hm_open_elements.proofs.Plans.{current_by}
use Rattle.hm_open_elements.proofs.path.Path.current.Goals as goal

pub returns : goal.returns
returns c =
    let os = c.self.inside.elements.items in
    let o = c.index.result.now in
    let len : c.len.result ≡ length os = omega (arith, c.len.ensures) in
    let at : o ≡ get_or os (length os - 1) o = rw len at c.index.ensures in
    c.as_str.ensures ∙ sym (current_by os o c.self.invariant.path at) ∙ ap current c.self.view_is
