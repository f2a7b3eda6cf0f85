use Rattle.hm_json_tree.proofs.Items.{no_text}
use Rattle.hm_json_tree.proofs.form.text_in.Goals as goal

pub returns-in-len2-up : goal.returns-in-len2-up
returns-in-len2-up c = λ path. no_text path c.args.rest.now c.in-len2-up.len_at_least
