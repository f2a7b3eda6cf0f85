-- The units of what is found of an event.
use Rattle.std.specs.Prelude.{ℕ, ◌<◌, ◌+◌, ◌^◌, List, [], ◌∷◌, ◌++◌, length, codes, chars}
use Rattle.hm_base.specs.Walks.{attributes_size}
use Rattle.hm_tree.specs.Views.{attributes_shown}
use Rattle.hm_edges.specs.Units.{kind_of}
use Rattle.hm_graph_laws.specs.Units as units
use Rattle.hm_graph_laws.specs.Units.{attribute_units, character_units}
use Rattle.hm_event_parts.specs.Parts.{IsPart, part_units}
use Rattle.hm_event_parts.specs.declared.found.Found.{Found}
use Rattle.hm_event_parts.specs.declared.found.Found.TheVariants as found

abbrev pub found_units : Found → List units.Unit
found_units found.Nothing = []
found_units (found.Single part) = part_units part
found_units (found.Lined kind text) = units.fixed (codes "\n") ∷ character_units (kind_of kind) (chars text.now)
found_units (found.Tag name attrs closes) = units.tag_name name.now ∷ (attribute_units (attributes_shown attrs) ++ units.tag_close closes ∷ [])

-- own bytes are those of their unit, and neither a name nor a comment with its marks is too long
abbrev pub IsFound : Found → Type 0
IsFound found.Nothing = Prim.Unit {0}
IsFound (found.Single part) = IsPart part
IsFound (found.Lined kind text) = Prim.Unit {0}
IsFound (found.Tag name attrs closes) = length name.now + attributes_size (attributes_shown attrs) < 2 ^ 32
