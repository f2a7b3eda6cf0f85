-- The states between two units of a spelling: where in the markup it stands, and what the bytes so far leave pending.
use Rattle.std.specs.Prelude.{ℕ, Bool, true, false, ◌&&◌, List, Option, Some, None, bytes_eq}
use Rattle.hm_spelling_spec.specs.Characters.{Spot, unquoted, double, single}

pub data Where : Type 0 where
  outside : Where  -- outside of tags
  after_omitted_end : Where  -- outside of tags, after an end tag of a table's section or of colgroup that was left out
  self_closed : Where  -- after a start tag of SVG with a '/', which stands for the end tag as well
  after_name : Where  -- in a tag, after its name or an attribute without value
  after_unquoted : Where  -- in a tag, after a value without quotes
  after_quoted : Where  -- in a tag, after a value in quotes
  in_unquoted : Where  -- in a value without quotes
  in_double : Where  -- in a value in double quotes
  in_single : Where  -- in a value in single quotes
  in_section : Where  -- in a CDATA section

-- What the bytes that were written may become together with those that follow. A place in the names of references is given
-- by the bytes that lead to it, the '&' included.
pub data Pending : Type 0 where
  nothing : Pending
  less_than : Pending  -- after a '<' that stands as itself
  hash : Pending  -- after `&#`, with the '&' as itself
  hash_x : Pending  -- after `&#x`, with the '&' as itself
  decimal : Pending  -- after a decimal reference without ';'
  hexadecimal : Pending  -- after a hexadecimal reference without ';'
  ampersand : List ℕ → Pending  -- after these bytes, with the '&' as itself
  named : List ℕ → Pending  -- after these bytes, which begin with a name without ';'
  half : Option (List ℕ) → Pending  -- after a name for two code points, the second of which is due; the name, where it has no ';'
  one_bracket : Pending  -- after `]` in a section
  two_brackets : Pending  -- after `]]` in a section

pub record State : Type 0 where
  pub at : Where
  pub pending : Pending

abbrev pub state : Where → Pending → State
state at p = record { at = at; pending = p }

-- where each spelling begins and ends
abbrev pub first_state : State
first_state = state outside nothing

-- the spot of the characters of a value
abbrev pub value_spot : Where → Spot
value_spot in_unquoted = unquoted
value_spot in_single = single
value_spot at = double

-- ---- Equality

abbrev pub same_where : Where → Where → Bool
same_where outside outside = true
same_where after_omitted_end after_omitted_end = true
same_where self_closed self_closed = true
same_where after_name after_name = true
same_where after_unquoted after_unquoted = true
same_where after_quoted after_quoted = true
same_where in_unquoted in_unquoted = true
same_where in_double in_double = true
same_where in_single in_single = true
same_where in_section in_section = true
same_where a b = false

abbrev pub same_left : Option (List ℕ) → Option (List ℕ) → Bool
same_left None None = true
same_left (Some a) (Some b) = bytes_eq a b
same_left a b = false

abbrev pub same_pending : Pending → Pending → Bool
same_pending nothing nothing = true
same_pending less_than less_than = true
same_pending hash hash = true
same_pending hash_x hash_x = true
same_pending decimal decimal = true
same_pending hexadecimal hexadecimal = true
same_pending (ampersand a) (ampersand b) = bytes_eq a b
same_pending (named a) (named b) = bytes_eq a b
same_pending (half a) (half b) = same_left a b
same_pending one_bracket one_bracket = true
same_pending two_brackets two_brackets = true
same_pending a b = false

unfoldable pub same_state : State → State → Bool
same_state a b = same_where a.at b.at && same_pending a.pending b.pending
