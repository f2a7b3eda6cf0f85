use Rattle.hm_json_tree.proofs.Items.{no_comment}
use Rattle.hm_json_tree.proofs.form.comment_in.Goals as goal

pub returns-in-len2-up : goal.returns-in-len2-up
returns-in-len2-up c = λ _. no_comment c.args.rest.now c.in-len2-up.len_at_least
