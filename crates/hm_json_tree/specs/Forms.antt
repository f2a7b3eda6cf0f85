-- What an item says of an event, before the open elements are asked.
use Rattle.std.specs.Prelude.{◌≡◌, Bool, true, false, not, ◌&&◌, nat_le, length, List, Option, Some}
use Rattle.serde_json.specs.Data.{no_items}
use Rattle.hm_base.specs.declared.limits.TheConstants.{ATTRIBUTE_LIMIT}
use Rattle.hm_elements.specs.Settled.{all_names_in_form}
use Rattle.hm_base.specs.Bytes.{is_null}
use Rattle.hm_tree.specs.Rows.{ends_in_text}
use Rattle.hm_base.specs.Walks.{has_distinct_names, Attribute, Event, doctype, start, text, comment, end, Element}
use Rattle.hm_elements.specs.Paths.{current, is_in_raw, is_in_svg}
use Rattle.hm_json_tree.specs.Reading.{is_svg_here, end_in}
use Rattle.hm_json_tree.specs.declared.form.JsonEvent.{JsonEvent}
use Rattle.hm_json_tree.specs.declared.form.JsonEvent.TheVariants.{Doctype, Start, Text, Comment, End}

-- they are no more than may be written in a tag, with names that are distinct and can be written
abbrev pub are_in_form : List Attribute → Bool
are_in_form attributes = nat_le (length attributes) ATTRIBUTE_LIMIT && has_distinct_names attributes && all_names_in_form attributes

-- the event where the path is open; at the top an end has no name
abbrev pub told : List Element → JsonEvent → Event
told path (Doctype legacy) = doctype legacy
told path (Start n attributes) = start n.now (is_svg_here n.now path) attributes
told path (Text s) = text s.now (is_in_raw path)
told path (Comment s) = comment s.now
told path End = end (current path) (is_in_svg path)

-- the event where the path is open; at the top there is no end
abbrev pub event_told : List Element → JsonEvent → Option Event
event_told path (Doctype legacy) = Some (told path (Doctype legacy))
event_told path (Start n attributes) = Some (told path (Start n attributes))
event_told path (Text s) = Some (told path (Text s))
event_told path (Comment s) = Some (told path (Comment s))
event_told path End = end_in path no_items

-- the form is that of an end
abbrev pub is_end : JsonEvent → Bool
is_end (Doctype legacy) = false
is_end (Start n attributes) = false
is_end (Text s) = false
is_end (Comment s) = false
is_end End = true

-- these are the attributes of a start; of another event none are asked for
abbrev pub HasAttributes : JsonEvent → List Attribute → Type 0
HasAttributes (Doctype legacy) attributes = Unit {0}
HasAttributes (Start n own) attributes = attributes ≡ own
HasAttributes (Text s) attributes = Unit {0}
HasAttributes (Comment s) attributes = Unit {0}
HasAttributes End attributes = Unit {0}

-- a text isn't empty and doesn't touch another; other events may follow any
abbrev pub may_join : JsonEvent → List Event → Bool
may_join (Doctype legacy) w = true
may_join (Start n attributes) w = true
may_join (Text s) w = not (is_null s.now) && not (ends_in_text w)
may_join (Comment s) w = true
may_join End w = true
