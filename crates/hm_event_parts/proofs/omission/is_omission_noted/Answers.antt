use Rattle.std.proofs.Common.{◌∙◌, sym}
use Rattle.hm_event_parts.proofs.Unlike.{no_loose}
use Rattle.hm_event_parts.proofs.omission.is_omission_noted.Goals as goal

pub returns-else-may_be_page_part : goal.returns-else-may_be_page_part
returns-else-may_be_page_part c = c.if-may_be_page_part.false ∙ sym (no_loose c.args.name.now (sym c.may_be_page_part.ensures ∙ c.if-may_be_page_part.false))
