use Rattle.std.proofs.Common.{Some, ◌-◌, length, refl, ap, sym, ◌∙◌}
use Rattle.hm_elements.specs.Paths.{current_name}
use Rattle.hm_open_elements.proofs.Opened.{outer_path}
use Rattle.hm_open_elements.proofs.open_elements.parent.Goals as goal

pub returns-in-Some : goal.returns-in-Some
returns-in-Some c =
    let os = c.args.elements.now in
    ap Some c.as_str.ensures ∙ sym (ap current_name (outer_path os (length os - 1) refl ∙ c.in-Some.ensures.path))

pub returns-in-None : goal.returns-in-None
returns-in-None c =
    let os = c.args.elements.now in
    sym (ap current_name (outer_path os (length os - 1) refl ∙ c.in-None.ensures.path))
