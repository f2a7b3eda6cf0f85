-- Laws of the units of a tree, event by event, and of units with bytes of their own.
use Rattle.std.specs.Prelude.{◌≡◌, ℕ, ◌+◌, ◌<◌, List, [], ◌++◌, length}
use Rattle.hm_base.specs.Walks.{Event}
use Rattle.hm_base.specs.declared.plain.SpellRules.{SpellRules}
use Rattle.hm_edges.specs.Pieces.{own_bytes}
use Rattle.hm_edges.specs.Units.{StandsFor}
use Rattle.hm_edges.specs.declared.units.Unit.{Unit}
use Rattle.hm_refs.specs.Names.{Entry}
use Rattle.hm_graph_laws.specs.Units.{units_of}
use Rattle.hm_event_parts.specs.Events.{units_at, units_left}
use Rattle.hm_event_parts.specs.Parts.{HasOwn, unit_with}

-- The units that are left at an event are its own and then those that are left after it.
abbrev pub UnitsGoEventByEvent : Type 0
UnitsGoEventByEvent = (r : SpellRules) (w : List Event) (i : ℕ) → i < length w → units_left r w i ≡ units_at r w i ++ units_left r w (i + 1)

-- After the last event none are left.
abbrev pub NoUnitsAreAfter : Type 0
NoUnitsAreAfter = (r : SpellRules) (w : List Event) → units_left r w (length w) ≡ []

-- At the first event all are left.
abbrev pub AllUnitsAreLeft : Type 0
AllUnitsAreLeft = (r : SpellRules) (w : List Event) → units_left r w 0 ≡ units_of r w

-- A unit stands for the unit of a tree with its own bytes.
abbrev pub UnitsStandFor : Type 0
UnitsStandFor = (t : List Entry) (unit : Unit) (b : List ℕ) → HasOwn unit b → StandsFor t unit (unit_with unit b)

-- The own bytes of that unit are these.
abbrev pub OwnBytesAreKept : Type 0
OwnBytesAreKept = (unit : Unit) (b : List ℕ) → HasOwn unit b → own_bytes (unit_with unit b) ≡ b
