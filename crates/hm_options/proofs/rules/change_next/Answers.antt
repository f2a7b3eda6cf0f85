use Rattle.std.proofs.Common.{refl}
use Rattle.hm_options.proofs.Passing.{same_stays}
use Rattle.hm_tree.specs.Views.{event_of}
use Rattle.hm_options.proofs.rules.change_next.Goals as goal

pub returns-in-Comment-clause-left : goal.returns-in-Comment-clause-left
returns-in-Comment-clause-left c = same_stays c.args.options.now c.args.editor.now.left (event_of c.next.result) c.next.ensures c.requires.stays (rw c.in-Comment.is refl) (rw c.in-Comment.is refl)

pub returns-in-End-clause-left : goal.returns-in-End-clause-left
returns-in-End-clause-left c = same_stays c.args.options.now c.args.editor.now.left (event_of c.next.result) c.next.ensures c.requires.stays (rw c.in-End.is refl) (rw c.in-End.is refl)
