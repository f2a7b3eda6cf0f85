-- Items that are read token by token. Only the crate's private clauses cite it.
use Rattle.std.specs.Prelude.{◌≡◌, ℕ, ◌≤◌, List, [], ◌∷◌, length, Some, codes}
use Rattle.json.specs.Token.{Token}
use Rattle.json.specs.Json as json
use Rattle.json.specs.Json.{after_end_array, items, value}
use Rattle.serde_json.specs.Data.{Data, string, array, Items, no_items, item}
use Rattle.serde_json.specs.Read.{of_items}
use Rattle.hm_base.specs.Walks.{Attribute, Event, Element, path_after_event}
use Rattle.hm_refs.specs.Ordered.{Begins}
use Rattle.hm_json_tree.specs.Reading.{attribute_data, attributes_data, doctype_name, kind_data, events_in, listed, of_listed, JsonWalk}
use Rattle.hm_json_tree.specs.Forms.{event_told}
use Rattle.hm_json_tree.specs.Progress.{put_events}
use Rattle.hm_json_tree.specs.declared.form.JsonEvent.{JsonEvent}
use Rattle.hm_json_tree.specs.declared.form.JsonEvent.TheVariants.{Doctype, Start, Text, Comment, End}

-- ---- Tokens that stand for data; `new` follows them

-- the items up to the bracket that closes their array, nested no deeper than the number
abbrev pub Lists : ℕ → List Token → Items → List Token → Type 0
Lists depth old ds new = (n : ℕ) → length old ≤ n → (js : json.Items) × (items (value depth) n old ≡ Some (js, new)) × (of_items js ≡ Some ds)

-- one text
abbrev pub IsText : List Token → List ℕ → List Token → Type 0
IsText old s new = old ≡ Token.string s ∷ new

-- a name and a value
abbrev pub IsPair : List Token → Attribute → List Token → Type 0
IsPair old a new = Begins 124 old (attribute_data a) new

abbrev pub ArePairs : List Token → List Attribute → List Token → Type 0
ArePairs old attributes new = Begins 125 old (array (attributes_data attributes)) new

-- ---- Items that say an event

abbrev pub kind_of : JsonEvent → List ℕ
kind_of (Doctype legacy) = codes "doctype"
kind_of (Start n attributes) = codes "start"
kind_of (Text s) = codes "text"
kind_of (Comment s) = codes "comment"
kind_of End = codes "end"

-- what stands after the kind
abbrev pub said : JsonEvent → Items
said (Doctype legacy) = item (string (doctype_name legacy)) no_items
said (Start n attributes) = item (string n.now) (item (array (attributes_data attributes)) no_items)
said (Text s) = item (string s.now) no_items
said (Comment s) = item (string s.now) no_items
said End = no_items

abbrev pub form_data : JsonEvent → Data
form_data f = kind_data (kind_of f) (said f)

-- what stands after the kind, where a bracket closes it
abbrev pub Says : List ℕ → List Token → JsonEvent → List Token → Type 0
Says kind old f new = (kind ≡ kind_of f) × ((last : List Token) → after_end_array new ≡ Some last → Lists 125 old (said f) last)

abbrev pub IsItem : List Token → JsonEvent → List Token → Type 0
IsItem old f new = Begins 126 old (form_data f) new

-- ---- Arrays of events

-- the tokens `old` are items and the end of all, and stand for this
abbrev pub Whole : List Token → JsonWalk → Type 0
Whole old w = (ds : Items) × Lists 126 old ds [] × (of_listed (events_in 0 [] ds) ≡ w)

-- The items before `new` are these events, and the path is open there.
abbrev pub IsRead : List Token → List Event → List Element → List Token → Type 0
IsRead old w path new = (ds : Items) (last : List Token) → Lists 126 new ds last → (all : Items) × Lists 126 old all last × (events_in 0 [] all ≡ put_events w (events_in (length w) path ds))

-- from item i on, where the path is open, events stand up to the items ds, where so many elements are open
pub record Goes (i : ℕ) (path : List Element) (all : Items) (depth : ℕ) (ds : Items) : Type 0 where
  pub events : List Event
  pub now_open : List Element
  pub next : ℕ
  pub depth_is : length now_open ≡ depth
  pub listed_is : events_in i path all ≡ put_events events (events_in next now_open ds)

-- the items before `new` are events, and so many elements are open there, where so many were open before
abbrev pub Passed : List Token → ℕ → ℕ → List Token → Type 0
Passed old opened depth new = (ds : Items) (last : List Token) → Lists 126 new ds last → (all : Items) × Lists 126 old all last × ((i : ℕ) (path : List Element) → length path ≡ opened → Goes i path all depth ds)

-- the next item is an event, and so many elements are open after it
abbrev pub PassesOne : List Token → ℕ → ℕ → List Token → Type 0
PassesOne old depth next new = (f : JsonEvent) × IsItem old f new × ((path : List Element) → length path ≡ depth → (e : Event) × (event_told path f ≡ Some e) × (length (path_after_event path e) ≡ next))

-- all items are events, after which no element is open
abbrev pub Passes : List Token → ℕ → Type 0
Passes old opened = (ds : Items) × Lists 126 old ds [] × ((i : ℕ) (path : List Element) → length path ≡ opened → (w : List Event) × (events_in i path ds ≡ listed w))

-- all items are events, and they stand for this after any others
abbrev pub PassesAs : List Token → ℕ → JsonWalk → Type 0
PassesAs old opened fault = (ds : Items) × Lists 126 old ds [] × ((i : ℕ) (path : List Element) (w : List Event) → length path ≡ opened → of_listed (put_events w (events_in i path ds)) ≡ fault)
