use Rattle.hm_json_tree.proofs.Told.{svg_other}
use Rattle.hm_json_tree.proofs.rules.is_svg_in_place.Goals as goal

pub returns-in_default : goal.returns-in_default
returns-in_default c = svg_other c.args.path.now c.args.form.now c.in_default.not-Start
