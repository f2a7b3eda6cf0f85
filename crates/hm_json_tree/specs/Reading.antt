-- The walk that JSON stands for, or why it stands for none: an array with an array for each event.
--
-- Whether an element is one of SVG, and whether a text is raw, follows from the open elements. An end ends the innermost of them.
use Rattle.std.specs.Prelude.{ℕ, suc, ◌+◌, Bool, true, false, ◌||◌, nat_lt, List, [], ◌∷◌, length, Option, Some, None, option_map, option_and_then, if◌then◌else◌, bytes_eq, codes}
use Rattle.serde_json.specs.Data.{Data, string, array, Items, no_items, item}
use Rattle.serde_json.specs.Find.{as_array}
use Rattle.hm_base.specs.Walks.{Attribute, Event, doctype, start, text, comment, end, Element, path_after_event}
use Rattle.hm_elements.specs.Names.{svg}
use Rattle.hm_elements.specs.Paths.{is_in_svg, is_in_raw}
use Rattle.hm_refs.specs.Json.{json}
use Rattle.hm_json_tree.specs.declared.limits.TheConstants.{JSON_LIMIT}
use Rattle.hm_json_tree.specs.Breaks.{Break, first_break}

-- ---- One event

abbrev pub doctype_in : Items → Option Event
doctype_in (item (string s) no_items) = if bytes_eq s (codes "plain") then Some (doctype false) else if bytes_eq s (codes "legacy") then Some (doctype true) else None
doctype_in ds = None

abbrev pub attribute_in : Data → Option Attribute
attribute_in (array (item (string n) (item (string v) no_items))) = Some (record { name = n; value = v })
attribute_in d = None

abbrev pub attributes_in : Items → Option (List Attribute)
attributes_in no_items = Some []
attributes_in (item d ds) = option_and_then (λ a. option_map (λ rest. a ∷ rest) (attributes_in ds)) (attribute_in d)

abbrev pub is_svg_here : List ℕ → List Element → Bool
is_svg_here n path = bytes_eq n svg || is_in_svg path

abbrev pub start_in : List Element → Items → Option Event
start_in path (item (string n) (item (array ds) no_items)) = option_map (start n (is_svg_here n path)) (attributes_in ds)
start_in path ds = None

abbrev pub text_in : List Element → Items → Option Event
text_in path (item (string s) no_items) = Some (text s (is_in_raw path))
text_in path ds = None

abbrev pub comment_in : Items → Option Event
comment_in (item (string s) no_items) = Some (comment s)
comment_in ds = None

abbrev pub end_in : List Element → Items → Option Event
end_in (e ∷ path) no_items = Some (end e.name e.foreign)
end_in path ds = None

abbrev pub event_of_kind : List ℕ → List Element → Items → Option Event
event_of_kind kind path ds =
    if bytes_eq kind (codes "doctype") then doctype_in ds
    else if bytes_eq kind (codes "start") then start_in path ds
    else if bytes_eq kind (codes "text") then text_in path ds
    else if bytes_eq kind (codes "comment") then comment_in ds
    else if bytes_eq kind (codes "end") then end_in path ds
    else None

-- the event that an item stands for where the path is open
abbrev pub event_in : List Element → Data → Option Event
event_in path (array (item (string kind) ds)) = event_of_kind kind path ds
event_in path d = None

-- ---- The walk

pub data Listed : Type 0 where
  listed : List Event → Listed
  bad_event : ℕ → Listed  -- the number of the first that is none
  left_open : ℕ → Listed  -- how many elements are open at the end

abbrev pub put_event : Event → Listed → Listed
put_event e (listed w) = listed (e ∷ w)
put_event e (bad_event i) = bad_event i
put_event e (left_open n) = left_open n

abbrev pub with_event : ℕ → Option Event → (Event → Listed) → Listed
with_event i None more = bad_event i
with_event i (Some e) more = put_event e (more e)

abbrev pub at_end : List Element → Listed
at_end [] = listed []
at_end (e ∷ path) = left_open (suc (length path))

abbrev pub events_in : ℕ → List Element → Items → Listed
events_in i path no_items = at_end path
events_in i path (item d ds) = with_event i (event_in path d) (λ e. events_in (i + 1) (path_after_event path e) ds)

-- ---- The bytes

pub data JsonWalk : Type 0 where
  walk : List Event → JsonWalk
  too_long : JsonWalk
  not_json : JsonWalk
  not_array : JsonWalk
  no_event : ℕ → JsonWalk
  some_open : ℕ → JsonWalk
  not_settled : Break → JsonWalk

abbrev pub unless_broken : Option Break → List Event → JsonWalk
unless_broken None w = walk w
unless_broken (Some b) w = not_settled b

abbrev pub of_listed : Listed → JsonWalk
of_listed (bad_event i) = no_event i
of_listed (left_open n) = some_open n
of_listed (listed w) = unless_broken (first_break w) w

abbrev pub of_array : Option Items → JsonWalk
of_array None = not_array
of_array (Some ds) = of_listed (events_in 0 [] ds)

abbrev pub of_value : Option Data → JsonWalk
of_value None = not_json
of_value (Some d) = of_array (as_array d)

-- no more bytes are read
abbrev pub json_limit : ℕ
json_limit = JSON_LIMIT

-- the settled walk that JSON stands for, or the first reason why it stands for none
unfoldable pub json_walk : List ℕ → JsonWalk
json_walk bytes = if nat_lt json_limit (length bytes) then too_long else of_value (json bytes)

-- ---- What is written

abbrev pub attribute_data : Attribute → Data
attribute_data a = array (item (string a.name) (item (string a.value) no_items))

abbrev pub attributes_data : List Attribute → Items
attributes_data [] = no_items
attributes_data (a ∷ attributes) = item (attribute_data a) (attributes_data attributes)

abbrev pub kind_data : List ℕ → Items → Data
kind_data kind ds = array (item (string kind) ds)

abbrev pub doctype_name : Bool → List ℕ
doctype_name false = codes "plain"
doctype_name true = codes "legacy"

abbrev pub event_data : Event → Data
event_data (doctype legacy) = kind_data (codes "doctype") (item (string (doctype_name legacy)) no_items)
event_data (start n foreign attributes) = kind_data (codes "start") (item (string n) (item (array (attributes_data attributes)) no_items))
event_data (text s raw) = kind_data (codes "text") (item (string s) no_items)
event_data (comment s) = kind_data (codes "comment") (item (string s) no_items)
event_data (end n foreign) = kind_data (codes "end") no_items

abbrev pub walk_data : List Event → Items
walk_data [] = no_items
walk_data (e ∷ w) = item (event_data e) (walk_data w)
