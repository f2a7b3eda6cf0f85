-- The rewrites that change single events or leave them out, all at once.
use Rattle.std.specs.Prelude.{ℕ, Bool, true, false, not, ◌&&◌, ◌||◌, List, [], ◌∷◌, Option, None, flat_map, map, if◌then◌else◌}
use Rattle.hm_base.specs.Walks.{Event, doctype, start, text, comment, end, Attribute, Element, pushes}
use Rattle.hm_base.specs.declared.plain.TreeOptions.{TreeOptions}
use Rattle.hm_elements.specs.Attributes.{is_redundant}
use Rattle.hm_options.specs.Rewrites.{by, plain_doctype, no_comment, with_attributes, no_boolean_values, no_empty, no_redundant, without_value, is_empty, uncommented, where_set}

-- an attribute with the value that is left of it
abbrev pub valued : TreeOptions → Attribute → Attribute
valued o a = if o.booleans then without_value a else a

-- an attribute of an HTML element n is left out that has this value left
abbrev pub is_dropped : TreeOptions → List ℕ → Attribute → Bool
is_dropped o n a = (o.empty && is_empty a) || (o.redundant && is_redundant n a)

abbrev pub attribute_pass : TreeOptions → List ℕ → Attribute → List Attribute
attribute_pass o n a = if is_dropped o n (valued o a) then [] else valued o a ∷ []

-- those of an HTML element change
abbrev pub attributes_pass : TreeOptions → List ℕ → Bool → List Attribute → List Attribute
attributes_pass o n true attributes = attributes
attributes_pass o n false attributes = flat_map (attribute_pass o n) attributes

-- what an event becomes that isn't left out
abbrev pub changed : TreeOptions → Event → Event
changed o (doctype legacy) = doctype (not o.doctype && legacy)
changed o (start n foreign attributes) = start n foreign (attributes_pass o n foreign attributes)
changed o (text s raw) = text s raw
changed o (comment s) = comment s
changed o (end n foreign) = end n foreign

-- the event, unless it is a comment and comments are left out
abbrev pub kept : Bool → Event → List Event
kept true e = no_comment [] None e None
kept false e = e ∷ []

-- what an event becomes
abbrev pub event_pass : TreeOptions → List Element → Option Event → Event → Option Event → List Event
event_pass o path before e next = map (changed o) (kept o.comments e)

-- the walk in one pass, the texts that then touch joined
abbrev pub passed : TreeOptions → List Event → List Event
passed o w = pushes (by (event_pass o) w) []

-- all rewrites but the one of whitespace, in their order
abbrev pub all_but_space : TreeOptions → List Event → List Event
all_but_space o w =
    where_set o.redundant (by (with_attributes no_redundant))
    (where_set o.empty (by (with_attributes no_empty))
    (where_set o.booleans (by (with_attributes no_boolean_values))
    (where_set o.comments uncommented
    (where_set o.doctype (by plain_doctype) w))))
