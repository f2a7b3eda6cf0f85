use Rattle.std.proofs.Common.{◌∙◌, ◌+◌, take, drop, sym}
use Rattle.hm_event_parts.proofs.Unlike.{no_start}
use Rattle.hm_event_parts.proofs.left_out.start_falls_at.Goals as goal

pub returns-else-may_be_page_part : goal.returns-else-may_be_page_part
returns-else-may_be_page_part c = c.if-may_be_page_part.false ∙ sym (no_start c.args.frame c.args.name.now (take 1 (drop (c.args.i + 1) c.args.tree.now)) (sym c.may_be_page_part.ensures ∙ c.if-may_be_page_part.false))
