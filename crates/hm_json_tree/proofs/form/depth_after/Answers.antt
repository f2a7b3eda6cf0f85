use Rattle.std.proofs.Common.{ap, arith}
use Rattle.hm_json_tree.specs.Forms.{event_told}
use Rattle.hm_json_tree.proofs.Whole.{opens_one, closes_one}
use Rattle.hm_json_tree.proofs.form.depth_after.Goals as goal

pub returns-else-depth-eq4294967295 : goal.returns-else-depth-eq4294967295
returns-else-depth-eq4294967295 c = λ path l. let i = c.in-Start.is in rw (← l) (opens_one path _ _ _ _ (ap (event_told path) i))

pub returns-else-depth-eq0 : goal.returns-else-depth-eq0
returns-else-depth-eq0 c = λ path l. rw (← l) (closes_one path _ (ap (event_told path) c.in-End.is) (omega (arith, l, c.if-depth-eq0.false)))

pub returns-in-Doctype : goal.returns-in-Doctype
returns-in-Doctype c = λ path l. (_, ap (event_told path) c.in-Doctype.is, l)

pub returns-in-Text : goal.returns-in-Text
returns-in-Text c = λ path l. (_, ap (event_told path) c.in-Text.is, l)

pub returns-in-Comment : goal.returns-in-Comment
returns-in-Comment c = λ path l. (_, ap (event_told path) c.in-Comment.is, l)
