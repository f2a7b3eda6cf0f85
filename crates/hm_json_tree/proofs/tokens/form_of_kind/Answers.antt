use Rattle.hm_json_tree.proofs.ByTokens.{list_ends, one_said}
use Rattle.hm_json_tree.proofs.tokens.form_of_kind.Goals as goal

pub returns-in-start : goal.returns-in-start
returns-in-start c = rw c.in-start.is c.start.ensures

pub returns-in-end : goal.returns-in-end
returns-in-end c = (c.in-end.is, λ last close. list_ends 125 _ last close)

pub returns-in_ok-text-in-text : goal.returns-in_ok-text-in-text
returns-in_ok-text-in-text c = (c.in-text.is, one_said _ _ _ c.in_ok-text-in-text.ensures)

pub returns-in_ok-text-in-comment : goal.returns-in_ok-text-in-comment
returns-in_ok-text-in-comment c = (c.in-comment.is, one_said _ _ _ c.in_ok-text-in-comment.ensures)

pub returns-in-doctype : goal.returns-in-doctype
returns-in-doctype c = rw c.in-doctype.is c.doctype.ensures
