use Rattle.std.proofs.Common.{subst}
use Rattle.hm_dump.specs.Given.{Gives}
use Rattle.hm_json_tree.proofs.Writing.{text_shown, comment_shown, end_shown}
use Rattle.hm_json_tree.proofs.write.give_event.Goals as goal

pub returns-in-Start : goal.returns-in-Start
returns-in-Start g c = rw c.in-Start.is (c.give_start.ensures c.in-Start.foreign)

pub returns-in-Text : goal.returns-in-Text
returns-in-Text g c = rw c.in-Text.is (subst (Gives _ _ _ _ _ _) (text_shown c.in-Text.text.now c.in-Text.raw) c.give_quoted.ensures)

pub returns-in-Comment : goal.returns-in-Comment
returns-in-Comment g c = rw c.in-Comment.is (subst (Gives _ _ _ _ _ _) (comment_shown c.in-Comment.text.now) c.give_quoted-in-Comment.ensures)

pub returns-in-End : goal.returns-in-End
returns-in-End g c = rw c.in-End.is (subst (Gives _ _ _ _ _ _) (end_shown c.in-End.name.now c.in-End.foreign) c.give-in-End.ensures)
