use Rattle.hm_json_tree.proofs.Told.{comment_other}
use Rattle.hm_json_tree.proofs.rules.is_comment_in_form.Goals as goal

pub returns-in_default : goal.returns-in_default
returns-in_default c = λ path. comment_other path c.args.form.now c.in_default.not-Comment
