use Rattle.hm_options.proofs.Passing.{text_changes, text_stays}
use Rattle.hm_options.proofs.rules.change_text.Goals as goal

pub returns-in_ok-join_next-clause-left : goal.returns-in_ok-join_next-clause-left
returns-in_ok-join_next-clause-left c = text_changes c.args.options.now c.args.editor.now.left c.join_next.new.editor.left c.requires.text c.if-options.true c.in_ok-join_next.ensures.left

pub returns-else-options-clause-left : goal.returns-else-options-clause-left
returns-else-options-clause-left c = text_stays c.args.options.now c.args.editor.now.left c.requires.text c.if-options.false
