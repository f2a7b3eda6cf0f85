use Rattle.std.proofs.Common.{sym, ◌∙◌, ap, not}
use Rattle.hm_json_tree.proofs.Told.{svg_stands}
use Rattle.hm_json_tree.proofs.rules.start_is_in_place.Goals as goal

pub returns-then-svg_name : goal.returns-then-svg_name
returns-then-svg_name c = λ attributes.
    ap not (rw c.current.ensures at c.is_boundary.ensures) ∙ svg_stands c.args.path.now c.args.name.now attributes (sym c.if-is_in_svg.ensures) (sym c.svg_name.ensures ∙ c.if-svg_name.true)
