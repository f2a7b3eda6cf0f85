use Rattle.hm_json_tree.proofs.form.form_of_kind.Goals as goal

pub returns-in-doctype : goal.returns-in-doctype
returns-in-doctype c = λ path. rw c.in-doctype.is (c.doctype_in.ensures path)

pub returns-in-comment : goal.returns-in-comment
returns-in-comment c = λ path. rw c.in-comment.is (c.comment_in.ensures path)
