use Rattle.std.proofs.Common.{◌≡◌, ◌∙◌, ap}
use Rattle.std.proofs.lemmas.Result.{on_ok_weaker}
use Rattle.hm_event_parts.specs.Parts.{parts_units}
use Rattle.hm_event_parts.proofs.PartsAdded.{added_first}
use Rattle.hm_event_parts.proofs.find.find_parts.Goals as goal

pub returns-clause-units : goal.returns-clause-units
returns-clause-units c = on_ok_weaker c.add_found.result (λ is. is ∙ c.find_event.ensures.units) (added_first c.add_found.result c.clear.new.self.items c.add_found.new.into.items _ c.clear.ensures.items c.add_found.ensures)
