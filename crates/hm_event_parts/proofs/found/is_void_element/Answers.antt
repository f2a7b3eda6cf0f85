use Rattle.std.proofs.Common.{◌∙◌, sym}
use Rattle.hm_event_parts.proofs.Unlike.{no_void}
use Rattle.hm_event_parts.proofs.found.is_void_element.Goals as goal

pub returns-else-may_be_void : goal.returns-else-may_be_void
returns-else-may_be_void c = c.if-may_be_void.false ∙ sym (no_void c.args.name.now (sym c.may_be_void.ensures ∙ c.if-may_be_void.false))
