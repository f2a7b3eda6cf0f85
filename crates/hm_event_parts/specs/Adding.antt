-- Parts that are added to a buffer.
use Rattle.std.specs.Prelude.{◌≡◌, List, ◌++◌, Result, OnOk}
use Rattle.hm_graph_laws.specs.Units as units
use Rattle.hm_event_parts.specs.Parts.{AreParts, parts_units}
use Rattle.hm_event_parts.specs.declared.parts.Part.{Part}

-- unless this fails, the buffer has more parts after those from before, and these stand for the units
pub record AddsParts {E : Type 0} (r : Result (Prim.Unit {0}) E) (before now : List Part) (more : List units.Unit) : Type 0 where
  pub units : OnOk r (parts_units now ≡ parts_units before ++ more)
  pub parts : AreParts before → OnOk r (AreParts now)
