use Rattle.std.proofs.Common.{sym, ◌∙◌}
use Rattle.hm_options.proofs.Passing.{loose_there, not_loose_there}
use Rattle.hm_tree.specs.Views.{event_of}
use Rattle.hm_options.proofs.joining.is_loose_at.Goals as goal

pub returns-in-Some : goal.returns-in-Some
returns-in-Some c = c.is_loose.ensures ∙ sym (loose_there c.args.editor.now.left c.args.count (event_of c.in-Some.event) (sym (rw (c.in-Some.is) at c.ahead.ensures)))

pub returns-in-None : goal.returns-in-None
returns-in-None c = sym (not_loose_there c.args.editor.now.left c.args.count (sym (rw (c.in-None.is) at c.ahead.ensures)))
