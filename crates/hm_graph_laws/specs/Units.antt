-- The units of a tree, in the order in which they are spelled. All that edges need to know of the tree stands in the units.
use Rattle.std.specs.Prelude.{ℕ, Bool, true, false, not, ◌&&◌, ◌||◌, List, [], ◌∷◌, ◌++◌, Option, Some, None, if◌then◌else◌, codes, bytes_eq, chars}
use Rattle.hm_base.specs.Walks.{Attribute, Event, doctype, start, text, comment, end, Element, begins_end}
use Rattle.hm_base.specs.declared.plain.SpellRules.{SpellRules}
use Rattle.hm_elements.specs.Names.{colgroup}
use Rattle.hm_elements.specs.Omission.{start_tag_required_after}
use Rattle.hm_elements.specs.Paths.{current, is_in_svg, outer}
use Rattle.hm_elements.specs.Tables.{is_void, is_rcdata, is_section}
use Rattle.hm_spelling_spec.specs.Omission.{start_falls, may_omit_end}
use Rattle.hm_spelling_spec.specs.Spellings.{opening, other, wants_line_feed}

-- the texts in which characters stand
pub data TextKind : Type 0 where
  in_text : TextKind
  in_rcdata : TextKind
  in_foreign : TextKind
  in_value : TextKind

pub data Unit : Type 0 where
  fixed : List ℕ → Unit  -- bytes without a choice
  start_tag : List ℕ → Bool → Bool → Bool → Unit  -- name; whether it may be left out; whether not after a loose end; whether it may close itself
  tag_name : List ℕ → Unit  -- '<' and the name of a tag with attributes
  bare_attribute : List ℕ → Unit  -- an attribute with an empty value
  attribute_name : List ℕ → List ℕ → Unit  -- the name of any other attribute, its '=' and what opens the value; the value's code points
  character : TextKind → ℕ → Option ℕ → Unit  -- a code point, and the one after it in the same text
  attribute_end : Unit  -- what closes a value
  tag_close : Bool → Unit  -- '>', and whether the tag may close itself
  end_tag : List ℕ → Bool → Bool → Unit  -- name, whether it may be left out, and whether that leaves the end loose

abbrev pub next_of : List ℕ → Option ℕ
next_of [] = None
next_of (d ∷ cs) = Some d

abbrev pub character_units : TextKind → List ℕ → List Unit
character_units kind [] = []
character_units kind (c ∷ cs) = character kind c (next_of cs) ∷ character_units kind cs

-- ---- Attributes

abbrev pub attribute_units : List Attribute → List Unit
attribute_units [] = []
attribute_units (a ∷ attributes) = value_units a.name a.value ++ attribute_units attributes
  where
    value_units : List ℕ → List ℕ → List Unit
    value_units n [] = bare_attribute n ∷ []
    value_units n (c ∷ s) = attribute_name n (chars (c ∷ s)) ∷ (character_units in_value (chars (c ∷ s)) ++ attribute_end ∷ [])

-- ---- Tags

-- the event directly before
abbrev pub Previous : Type 0
Previous = Option Event

-- After an end that bars it and whose tag was left out, the start tag isn't left out as well.
abbrev pub is_required_after_omission : Previous → List ℕ → Bool
is_required_after_omission (Some (end m foreign)) n = not foreign && start_tag_required_after m n
is_required_after_omission previous n = false

-- an element of SVG that ends at once
abbrev pub may_close_itself : Bool → List Event → Bool
may_close_itself foreign w = foreign && begins_end w

abbrev pub start_units : SpellRules → Previous → List ℕ → Bool → List Attribute → List Event → List Unit
start_units r previous n foreign [] w = start_tag n (r.omit && (not foreign && start_falls r.frame n w)) (is_required_after_omission previous n) (may_close_itself foreign w) ∷ []
start_units r previous n foreign (a ∷ attributes) w = tag_name n ∷ (attribute_units (a ∷ attributes) ++ tag_close (may_close_itself foreign w) ∷ [])

-- Where the end tag of a section of a table or of colgroup is left out, the state records it.
abbrev pub is_omission_noted : List ℕ → Bool
is_omission_noted n = is_section n || bytes_eq n colgroup

-- a void element has no end tag
abbrev pub end_units : SpellRules → List ℕ → Bool → List Element → List Event → List Unit
end_units r n foreign path w = if not foreign && is_void n then [] else end_tag n (may_omit_end r n foreign path w) (is_omission_noted n) ∷ []

-- ---- Texts

abbrev pub kind_of : List Element → TextKind
kind_of path = if is_in_svg path then in_foreign else if is_rcdata (current path) then in_rcdata else in_text

abbrev pub is_after_start : Previous → Bool
is_after_start (Some (start n foreign attributes)) = true
is_after_start previous = false

-- the line feed that isn't read, if one is needed
abbrev pub line_feed_units : Previous → List Element → List ℕ → List Unit
line_feed_units previous path cs = if wants_line_feed (if is_after_start previous then opening else other) path cs then fixed (10 ∷ []) ∷ [] else []

abbrev pub text_units : Previous → List Element → List ℕ → Bool → List Unit
text_units previous path s true = fixed s ∷ []
text_units previous path s false = line_feed_units previous path (chars s) ++ character_units (kind_of path) (chars s)

-- ---- Trees

abbrev pub doctype_bytes : Bool → List ℕ
doctype_bytes false = codes "<!doctype html>"
doctype_bytes true = codes "<!doctype html SYSTEM \"about:legacy-compat\">"

-- the units of the events that are left, after the previous one and with these elements open
abbrev pub units_from : SpellRules → Previous → List Element → List Event → List Unit
units_from r previous path [] = []
units_from r previous path (doctype legacy ∷ w) = fixed (doctype_bytes legacy) ∷ units_from r (Some (doctype legacy)) path w
units_from r previous path (comment s ∷ w) = fixed (codes "<!--" ++ (s ++ codes "-->")) ∷ units_from r (Some (comment s)) path w
units_from r previous path (text s raw ∷ w) = text_units previous path s raw ++ units_from r (Some (text s raw)) path w
units_from r previous path (start n foreign attributes ∷ w) =
    start_units r previous n foreign attributes w ++ units_from r (Some (start n foreign attributes)) (record { name = n; foreign = foreign } ∷ path) w
units_from r previous path (end n foreign ∷ w) = end_units r n foreign (outer path) w ++ units_from r (Some (end n foreign)) (outer path) w

-- the units of a tree
abbrev pub units_of : SpellRules → List Event → List Unit
units_of r w = units_from r None [] w
