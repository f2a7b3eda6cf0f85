use Rattle.hm_elements.specs.Settled.{is_not_deep}
use Rattle.hm_json_tree.proofs.Told.{deep_other, open_more}
use Rattle.hm_json_tree.proofs.rules.is_not_deep.Goals as goal

pub returns-in-Start : goal.returns-in-Start
unfolding is_not_deep
returns-in-Start c = rw c.in-Start.is (open_more c.len.result _ c.args.path.now c.len.ensures)

pub returns-in_default : goal.returns-in_default
returns-in_default c = deep_other c.args.path.now c.args.form.now c.in_default.not-Start
