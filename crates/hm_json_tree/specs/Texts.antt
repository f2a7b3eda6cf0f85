-- The JSON of a walk, and that it reads back.
use Rattle.std.specs.Prelude.{◌≡◌, ◌≤◌, ℕ, true, List, [], ◌∷◌, ◌++◌, length}
use Rattle.hm_base.specs.Walks.{Event}
use Rattle.hm_elements.specs.Settled.{Settled, all_events, is_event_utf8}
use Rattle.serde_json.specs.Data.{array}
use Rattle.serde_json.specs.Written.{compact_text}
use Rattle.hm_json_tree.specs.Reading.{walk_data, json_limit, json_walk, walk}

-- the compact JSON of a walk
unfoldable pub json_text : List Event → List ℕ
json_text w = compact_text (array (walk_data w))

-- What is written of a settled walk is read as that walk, where it isn't too long.
abbrev pub WrittenReadsBack : Type 0
WrittenReadsBack = (w : List Event) → Settled w → length (json_text w) ≤ json_limit → json_walk (json_text w) ≡ walk w

-- So is a line of it, which ends by a line feed.
abbrev pub LineReadsBack : Type 0
LineReadsBack = (w : List Event) → Settled w → length (json_text w ++ 10 ∷ []) ≤ json_limit → json_walk (json_text w ++ 10 ∷ []) ≡ walk w

-- A walk that is read is settled, where its texts are UTF-8.
abbrev pub ReadIsSettled : Type 0
ReadIsSettled = (bytes : List ℕ) (w : List Event) → json_walk bytes ≡ walk w → all_events is_event_utf8 [] w ≡ true → Settled w
