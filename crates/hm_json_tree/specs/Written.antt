-- The JSON of a walk, item by item.
use Rattle.std.specs.Prelude.{ℕ, Bool, true, false, List, [], ◌∷◌, ◌++◌}
use Rattle.hm_base.specs.Walks.{Attribute, Event}
use Rattle.serde_json.specs.Written.{compact_text, comma_if}
use Rattle.hm_json_tree.specs.Reading.{attribute_data, event_data}

-- texts one after the other, with a comma before each but the first; before this one too where `later` is set
abbrev pub with_commas : {X : Type 0} → (X → List ℕ) → Bool → List X → List ℕ
with_commas shown later [] = []
with_commas shown later (x ∷ xs) = comma_if later ++ (shown x ++ with_commas shown true xs)

abbrev pub event_text : Event → List ℕ
event_text e = compact_text (event_data e)

abbrev pub attribute_text : Attribute → List ℕ
attribute_text a = compact_text (attribute_data a)

-- the items of events
abbrev pub events_text : List Event → List ℕ
events_text w = with_commas event_text false w

-- the items of attributes
abbrev pub attributes_text : List Attribute → List ℕ
attributes_text attributes = with_commas attribute_text false attributes
