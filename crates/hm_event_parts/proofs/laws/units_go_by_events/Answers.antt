use Rattle.std.proofs.Common.{refl}
use Rattle.hm_event_parts.proofs.UnitsLeft.{units_left-next, units_left-none}
use Rattle.hm_event_parts.proofs.laws.units_go_by_events.Goals as goal

pub returns : goal.returns
returns c = record { event = units_left-next; none = units_left-none; all = λ r w. refl }
