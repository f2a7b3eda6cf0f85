use Rattle.std.proofs.Common.{sym, ◌∙◌}
use Rattle.hm_insertion.proofs.EndTags.{left_done, unclosed}
use Rattle.hm_insertion.proofs.parts.Parts.leave_body.Goals as goal

pub returns-then-is_at_end : goal.returns-then-is_at_end
returns-then-is_at_end c = left_done c.args.self.now c.args.insertion_mode c.requires.here c.requires.there c.requires.kept (sym c.is_at_end.ensures ∙ c.if-is_at_end.true)

pub returns-else-is_at_end : goal.returns-else-is_at_end
returns-else-is_at_end c = rw c.from.ensures (unclosed c.args.self.now c.args.insertion_mode c.requires.here (sym c.is_at_end.ensures ∙ c.if-is_at_end.false))
