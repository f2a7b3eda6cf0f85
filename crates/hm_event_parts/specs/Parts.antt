-- The units that parts stand for.
use Rattle.std.specs.Prelude.{◌≡◌, ◌<◌, ◌+◌, ◌^◌, ℕ, List, [], ◌∷◌, ◌++◌, length, codes, chars}
use Rattle.hm_graph_laws.specs.Units as units
use Rattle.hm_graph_laws.specs.Units.{character_units}
use Rattle.hm_edges.specs.Units.{kind_of}
use Rattle.hm_edges.specs.declared.units.Unit.{Unit}
use Rattle.hm_edges.specs.declared.units.Unit.TheVariants as code
use Rattle.hm_event_parts.specs.declared.parts.Part.{Part}
use Rattle.hm_event_parts.specs.declared.parts.Part.TheVariants as parts

-- the unit of a tree with these own bytes; a character isn't one of them, nor is what opens a value
abbrev pub unit_with : Unit → List ℕ → units.Unit
unit_with (code.Fixed len) b = units.fixed b
unit_with (code.StartTag len omits required_after_omission closes) b = units.start_tag b omits required_after_omission closes
unit_with (code.TagName len) b = units.tag_name b
unit_with (code.BareAttribute len) b = units.bare_attribute b
unit_with (code.AttributeName len needs) b = units.fixed b
unit_with (code.Character kind c pair more) b = units.fixed b
unit_with code.AttributeEnd b = units.attribute_end
unit_with (code.TagClose closes) b = units.tag_close closes
unit_with (code.EndTag len omits notes_omission) b = units.end_tag b omits notes_omission

-- a unit that is no character and opens no value has these own bytes
abbrev pub HasOwn : Unit → List ℕ → Type 0
HasOwn (code.Fixed len) b = length b ≡ len
HasOwn (code.StartTag len omits required_after_omission closes) b = length b ≡ len
HasOwn (code.TagName len) b = length b ≡ len
HasOwn (code.BareAttribute len) b = length b ≡ len
HasOwn (code.AttributeName len needs) b = ⊥
HasOwn (code.Character kind c pair more) b = ⊥
HasOwn code.AttributeEnd b = b ≡ []
HasOwn (code.TagClose closes) b = b ≡ []
HasOwn (code.EndTag len omits notes_omission) b = length b ≡ len

-- a comment with its marks
abbrev pub comment_bytes : List ℕ → List ℕ
comment_bytes s = codes "<!--" ++ (s ++ codes "-->")

abbrev pub part_units : Part → List units.Unit
part_units (parts.One unit own) = unit_with unit own.now ∷ []
part_units (parts.Opening name value) = units.attribute_name name.now (chars value.now) ∷ []
part_units (parts.Comment text) = units.fixed (comment_bytes text.now) ∷ []
part_units (parts.Chars kind text) = character_units (kind_of kind) (chars text.now)

-- the units of parts, one after the other
abbrev pub parts_units : List Part → List units.Unit
parts_units [] = []
parts_units (part ∷ more) = part_units part ++ parts_units more

-- own bytes are those of their unit, and neither a name nor a comment with its marks is too long
abbrev pub IsPart : Part → Type 0
IsPart (parts.One unit own) = HasOwn unit own.now
IsPart (parts.Opening name value) = length name.now < 2 ^ 32
IsPart (parts.Comment text) = length text.now + 7 < 2 ^ 32
IsPart (parts.Chars kind text) = Prim.Unit {0}

abbrev pub AreParts : List Part → Type 0
AreParts [] = Prim.Unit {0}
AreParts (part ∷ more) = IsPart part × AreParts more
