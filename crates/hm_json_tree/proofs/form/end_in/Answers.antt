use Rattle.hm_json_tree.proofs.Items.{no_end}
use Rattle.hm_json_tree.proofs.form.end_in.Goals as goal

pub returns-in-len1-up : goal.returns-in-len1-up
returns-in-len1-up c = λ path. no_end path c.args.rest.now c.in-len1-up.len_at_least
