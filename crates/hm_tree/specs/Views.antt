-- What a view of an event shows.
use Rattle.std.specs.Prelude.{List}
use Rattle.hm_base.specs.Walks.{Attribute, Event, doctype, start, text, comment, end}
use Rattle.hm_tree.specs.Pieces.{attributes_in}
use Rattle.hm_tree.specs.declared.attrs_view.AttrsView.{AttrsView}
use Rattle.hm_tree.specs.declared.events.EventView.{EventView}
use Rattle.hm_tree.specs.declared.events.EventView.TheVariants.{Doctype, Start, Text, Comment, End}

-- the attributes
abbrev pub attributes_shown : AttrsView → List Attribute
attributes_shown attrs = attributes_in attrs.text.now attrs.pieces.now

-- the event
abbrev pub event_of : EventView → Event
event_of (Doctype legacy) = doctype legacy
event_of (Start name foreign attrs) = start name.now foreign (attributes_shown attrs)
event_of (Text s raw) = text s.now raw
event_of (Comment s) = comment s.now
event_of (End name foreign) = end name.now foreign
