use Rattle.std.proofs.Common.{◌∙◌, sym}
use Rattle.hm_event_parts.proofs.Unlike.{none_required_after_omission}
use Rattle.hm_event_parts.specs.Events.{previous_at}
use Rattle.hm_event_parts.proofs.left_out.is_required_after_omission.Goals as goal

pub returns-else-may_be_page_part : goal.returns-else-may_be_page_part
returns-else-may_be_page_part c = c.if-may_be_page_part.false ∙ sym (none_required_after_omission (previous_at c.args.tree.now c.args.i) c.args.name.now (sym c.may_be_page_part.ensures ∙ c.if-may_be_page_part.false))
