use Rattle.hm_options.proofs.Fates.{start_changes, start_stays}
use Rattle.hm_options.proofs.attributes.change_start.Goals as goal

pub returns-then-may_change-clause-left : goal.returns-then-may_change-clause-left
returns-then-may_change-clause-left c = start_changes c.args.options.now c.args.editor.now.left c.change_attributes.new.editor.left (c.may_change.ensures.html c.if-may_change.true) c.change_attributes.ensures.left

pub returns-else-may_change-clause-left : goal.returns-else-may_change-clause-left
returns-else-may_change-clause-left c = start_stays c.args.options.now c.args.editor.now.left c.requires (c.may_change.ensures.stays c.if-may_change.false)
