use Rattle.std.proofs.Common.{ap}
use Rattle.hm_options.proofs.Passing.{doctype_changes, doctype_stays}
use Rattle.hm_options.proofs.rules.change_doctype.Goals as goal

pub returns-then-options-clause-left : goal.returns-then-options-clause-left
returns-then-options-clause-left c = doctype_changes c.args.options.now c.args.editor.now.left c.make_plain.new.self.left c.requires c.if-options.true (ap (λ e. e.left) c.make_plain.ensures)

pub returns-else-options-clause-left : goal.returns-else-options-clause-left
returns-else-options-clause-left c = doctype_stays c.args.options.now c.args.editor.now.left c.requires c.if-options.false
