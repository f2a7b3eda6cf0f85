use Rattle.hm_json_tree.proofs.Items.{no_doctype}
use Rattle.hm_json_tree.proofs.form.doctype_in.Goals as goal

pub returns-in-len2-up : goal.returns-in-len2-up
returns-in-len2-up c = λ _. no_doctype c.args.rest.now c.in-len2-up.len_at_least
