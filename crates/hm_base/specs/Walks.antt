-- Trees as walks: balanced lists of events. Texts, names and values are lists of bytes.
use Rattle.std.specs.Prelude.{ℕ, ◌+◌, ◌&&◌, Bool, true, false, not, List, [], ◌∷◌, ◌++◌, length, bytes_eq, if◌then◌else◌}

-- an attribute of a start tag
pub record Attribute : Type 0 where
  pub name : List ℕ
  pub value : List ℕ

-- One event of a walk. A void element is a start directly before its end.
pub data Event : Type 0 where
  doctype : Bool → Event  -- whether it is the legacy one
  start : List ℕ → Bool → List Attribute → Event  -- name, whether it is an SVG element, attributes in order
  text : List ℕ → Bool → Event  -- its bytes, whether it is raw
  comment : List ℕ → Event
  end : List ℕ → Bool → Event  -- name, whether it is an SVG element

-- an open element
pub record Element : Type 0 where
  pub name : List ℕ
  pub foreign : Bool

abbrev pub same_flag : Bool → Bool → Bool
same_flag true b = b
same_flag false b = not b

abbrev pub is_same_element : Element → List ℕ → Bool → Bool
is_same_element e n foreign = bytes_eq e.name n && same_flag e.foreign foreign

-- the open elements after an event, innermost first
abbrev pub path_after_event : List Element → Event → List Element
path_after_event path (doctype legacy) = path
path_after_event path (start n foreign attributes) = record { name = n; foreign = foreign } ∷ path
path_after_event path (text s raw) = path
path_after_event path (comment s) = path
path_after_event [] (end n foreign) = []
path_after_event (e ∷ path) (end n foreign) = path

-- the open elements after a list of events
abbrev pub path_after : List Element → List Event → List Element
path_after path [] = path
path_after path (e ∷ w) = path_after (path_after_event path e) w

-- each end ends the innermost open element
abbrev pub ends_match : List Element → List Event → Bool
ends_match path [] = true
ends_match [] (end n foreign ∷ w) = false
ends_match (e ∷ path) (end n foreign ∷ w) = is_same_element e n foreign && ends_match path w
ends_match path (doctype legacy ∷ w) = ends_match path w
ends_match path (start n foreign attributes ∷ w) = ends_match (record { name = n; foreign = foreign } ∷ path) w
ends_match path (text s raw ∷ w) = ends_match path w
ends_match path (comment s ∷ w) = ends_match path w

-- no attribute has this name
abbrev pub has_name : List ℕ → List Attribute → Bool
has_name n [] = false
has_name n (a ∷ attributes) = if bytes_eq a.name n then true else has_name n attributes

abbrev pub has_distinct_names : List Attribute → Bool
has_distinct_names [] = true
has_distinct_names (a ∷ attributes) = not (has_name a.name attributes) && has_distinct_names attributes

-- the bytes of names and values
abbrev pub attributes_size : List Attribute → ℕ
attributes_size [] = 0
attributes_size (a ∷ attributes) = length a.name + length a.value + attributes_size attributes

-- the bytes of names, values, texts and comments; an end has none of its own
abbrev pub event_size : Event → ℕ
event_size (doctype legacy) = 0
event_size (start n foreign attributes) = length n + attributes_size attributes
event_size (text s raw) = length s
event_size (comment s) = length s
event_size (end n foreign) = 0

abbrev pub walk_size : List Event → ℕ
walk_size [] = 0
walk_size (e ∷ w) = event_size e + walk_size w

-- a text appended to what is there: it joins a text that stands last, and an empty one adds nothing
abbrev pub with_text : List Event → List ℕ → Bool → List Event
with_text w [] raw = w
with_text [] (c ∷ s) raw = text (c ∷ s) raw ∷ []
with_text (text t last_raw ∷ []) (c ∷ s) raw = text (t ++ c ∷ s) last_raw ∷ []
with_text (e ∷ w) (c ∷ s) raw = e ∷ with_text w (c ∷ s) raw

-- a text put before what follows: it joins a text that stands first
abbrev pub text_before : List ℕ → Bool → List Event → List Event
text_before s raw (text t next_raw ∷ w) = text (s ++ t) raw ∷ w
text_before s raw w = text s raw ∷ w

-- an event put before what follows
abbrev pub pushed : Event → List Event → List Event
pushed (text s raw) w = text_before s raw w
pushed (doctype legacy) w = doctype legacy ∷ w
pushed (start n foreign attributes) w = start n foreign attributes ∷ w
pushed (comment s) w = comment s ∷ w
pushed (end n foreign) w = end n foreign ∷ w

-- events put before what follows, texts that touch joined
abbrev pub pushes : List Event → List Event → List Event
pushes [] w = w
pushes (e ∷ es) w = pushed e (pushes es w)

-- ---- What comes first in a walk

abbrev pub begins_text : List Event → Bool
begins_text (text s raw ∷ w) = true
begins_text w = false

abbrev pub begins_comment : List Event → Bool
begins_comment (comment s ∷ w) = true
begins_comment w = false

abbrev pub begins_start : List Event → Bool
begins_start (start n foreign attributes ∷ w) = true
begins_start w = false

abbrev pub begins_end : List Event → Bool
begins_end (end n foreign ∷ w) = true
begins_end w = false

-- the start of an HTML element of that name
abbrev pub begins_start_of : List ℕ → List Event → Bool
begins_start_of m (start n foreign attributes ∷ w) = not foreign && bytes_eq n m
begins_start_of m w = false

-- the end of an HTML element of that name
abbrev pub begins_end_of : List ℕ → List Event → Bool
begins_end_of m (end n foreign ∷ w) = not foreign && bytes_eq n m
begins_end_of m w = false
