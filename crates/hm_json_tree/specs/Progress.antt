-- How far a reader has come, and why it stops.
use Rattle.std.specs.Prelude.{◌≡◌, ℕ, ◌^◌, ◌<◌, ◌≤◌, List, [], ◌∷◌, ◌++◌, length, drop}
use Rattle.serde_json.specs.View.{items_view}
use Rattle.serde_json.specs.declared.value.Value.{Value}
use Rattle.hm_base.specs.Walks.{Event, Element, path_after, walk_size}
use Rattle.hm_tree.specs.Rows.{ends_in_text}
use Rattle.hm_json_tree.specs.Breaks.{Past, first_break, first_break_from}
use Rattle.hm_json_tree.specs.Reading.{Listed, put_event, events_in, JsonWalk, too_long, not_json, not_array, no_event, some_open, not_settled}
use Rattle.hm_json_tree.specs.Seen.{IsSeen}
use Rattle.hm_json_tree.specs.declared.fault.JsonFault.{JsonFault}
use Rattle.hm_json_tree.specs.declared.fault.JsonFault.TheVariants.{TooLong, NotJson, NotArray, BadEvent, Open, NotSettled, OutOfMemory}
use Rattle.hm_json_tree.specs.declared.reader.Reader.{Reader}

-- what a fault says of the bytes; want of memory says nothing
abbrev pub fault_walk : JsonFault → JsonWalk
fault_walk TooLong = too_long
fault_walk NotJson = not_json
fault_walk NotArray = not_array
fault_walk (BadEvent i) = no_event i
fault_walk (Open n) = some_open n
fault_walk (NotSettled i k) = not_settled (record { event = i; point = k })
fault_walk OutOfMemory = too_long

-- events before those of a list
abbrev pub put_events : List Event → Listed → Listed
put_events [] more = more
put_events (e ∷ w) more = put_event e (put_events w more)

-- a reader has read events without a break
pub record IsAt (r : Reader) : Type 0 where
  pub past : Past
  pub seen : IsSeen r.seen past
  pub path_is : past.path ≡ r.path
  pub opened : r.path ≡ path_after [] r.maker
  pub breaks : (w : List Event) → first_break (r.maker ++ w) ≡ first_break_from (length r.maker) past w
  pub last : r.seen.text ≡ ends_in_text r.maker
  pub shallow : length r.path ≤ 512
  pub bytes : r.bytes ≡ walk_size r.maker
  pub room : r.bytes < 2 ^ 29
  pub count : r.events ≡ length r.maker
  pub few : r.events ≤ 2 ^ 28

-- the events before item i are these, and the path is open there
abbrev pub AreListed : List Value → ℕ → List Event → List Element → Type 0
AreListed vs i w path = events_in 0 [] (items_view vs) ≡ put_events w (events_in i path (items_view (drop i vs)))

-- from item i on, where the path is open, events stand up to item k, where that many elements are open
pub record Follows (vs : List Value) (i : ℕ) (path : List Element) (k depth : ℕ) : Type 0 where
  pub events : List Event
  pub now_open : List Element
  pub depth_is : length now_open ≡ depth
  pub listed_is : events_in i path (items_view (drop i vs)) ≡ put_events events (events_in k now_open (items_view (drop k vs)))
