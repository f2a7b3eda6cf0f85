use Rattle.std.proofs.Common.{sym, ◌∙◌}
use Rattle.hm_options.proofs.Passing.{texts_more}
use Rattle.hm_options.proofs.joining.gather.Goals as goal

pub loop-i-preserved : goal.loop-i-preserved
loop-i-preserved c = rw (c.loop-i.invariant, c.text_at.ensures) at c.in_ok-push_str.ensures.bytes ∙ sym (texts_more c.args.editor.now.left c.loop-i.i)
