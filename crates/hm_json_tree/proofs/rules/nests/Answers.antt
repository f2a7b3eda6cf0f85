use Rattle.hm_json_tree.proofs.Told.{nests_other}
use Rattle.hm_json_tree.proofs.rules.nests.Goals as goal

pub returns-in_default : goal.returns-in_default
returns-in_default c = nests_other c.args.path.now c.args.form.now c.in_default.not-Start
