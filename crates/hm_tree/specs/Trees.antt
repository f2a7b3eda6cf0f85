-- What is true of the walk of a tree, which starts are open in it, and where two walks differ.
use Rattle.std.specs.Prelude.{◌≡◌, ◌≢◌, ℕ, ◌+◌, ◌^◌, ◌<◌, Bool, true, not, ◌&&◌, List, [], ◌∷◌, length, take, slice_get, Option, Some}
use Rattle.std.specs.Str.{is_utf8}
use Rattle.hm_base.specs.Bytes.{is_null}
use Rattle.hm_base.specs.Walks.{Attribute, Event, doctype, start, text, comment, end, Element, path_after, ends_match, same_flag, has_distinct_names, walk_size, begins_text}
use Rattle.hm_tree.specs.Attributes.{are_texts}

-- names, values, texts and comments are UTF-8, and the names of a start's attributes are distinct
abbrev pub is_sound : Event → Bool
is_sound (doctype legacy) = true
is_sound (start n foreign attributes) = is_utf8 n && are_texts attributes && has_distinct_names attributes
is_sound (text s raw) = is_utf8 s
is_sound (comment s) = is_utf8 s
is_sound (end n foreign) = is_utf8 n

abbrev pub are_sound : List Event → Bool
are_sound [] = true
are_sound (e ∷ w) = is_sound e && are_sound w

-- a text isn't empty and no text follows it
abbrev pub is_apart : Event → List Event → Bool
is_apart (text s raw) w = not (is_null s) && not (begins_text w)
is_apart e w = true

-- no text is empty, and no two texts touch
abbrev pub are_texts_apart : List Event → Bool
are_texts_apart [] = true
are_texts_apart (e ∷ w) = is_apart e w && are_texts_apart w

-- With an end for each open element the walk has fewer than 2 ^ 29 events. It has fewer than 2 ^ 29 bytes of names,
-- values, texts and comments.
pub record HasRoom (w : List Event) : Type 0 where
  pub events : length w + length (path_after [] w) < 2 ^ 29
  pub bytes : walk_size w < 2 ^ 29

-- events whose names and texts are sound, and that stay within the limits of a tree
pub record IsTold (w : List Event) : Type 0 where
  pub sound : are_sound w ≡ true
  pub events : length w < 2 ^ 29
  pub bytes : walk_size w < 2 ^ 29

-- the events of a tree up to some place
pub record IsBegun (w : List Event) : Type 0 where
  pub matched : ends_match [] w ≡ true
  pub sound : are_sound w ≡ true
  pub room : HasRoom w

-- the events of a whole tree: each end ends the innermost open element, none is open at the end, and texts neither are
-- empty nor touch
pub record IsWalk (w : List Event) : Type 0 where
  pub matched : ends_match [] w ≡ true
  pub closed : path_after [] w ≡ []
  pub apart : are_texts_apart w ≡ true
  pub sound : are_sound w ≡ true
  pub events : length w < 2 ^ 29
  pub bytes : walk_size w < 2 ^ 29

-- the end of the innermost open element
abbrev pub end_of : List Element → List Event
end_of [] = []
end_of (e ∷ path) = end e.name e.foreign ∷ []

-- a text is raw exactly where `raw` is set
abbrev pub agrees : Event → Bool → Bool
agrees (doctype legacy) raw = true
agrees (start n foreign attributes) raw = true
agrees (text s is_raw) raw = same_flag is_raw raw
agrees (comment s) raw = true
agrees (end n foreign) raw = true

-- where a text stands last, it is raw exactly where `raw` is set
abbrev pub last_agrees : List Event → Bool → Bool
last_agrees [] raw = true
last_agrees (e ∷ []) raw = agrees e raw
last_agrees (e ∷ x ∷ w) raw = last_agrees (x ∷ w) raw

-- the indices of the starts that are open after event i, innermost first
abbrev pub open_after_event : List ℕ → ℕ → Event → List ℕ
open_after_event open_starts i (doctype legacy) = open_starts
open_after_event open_starts i (start n foreign attributes) = i ∷ open_starts
open_after_event open_starts i (text s raw) = open_starts
open_after_event open_starts i (comment s) = open_starts
open_after_event [] i (end n foreign) = []
open_after_event (k ∷ open_starts) i (end n foreign) = open_starts

-- those after a list of events, the first of which has the index i
abbrev pub open_after : List ℕ → ℕ → List Event → List ℕ
open_after open_starts i [] = open_starts
open_after open_starts i (e ∷ w) = open_after (open_after_event open_starts i e) (i + 1) w

-- the innermost start that is open after the walk
abbrev pub innermost : List Event → Option ℕ
innermost w = slice_get (open_after [] 0 w) 0

-- the last start that is open directly before event i; for an end this is its own start
abbrev pub parent_of : List Event → ℕ → Option ℕ
parent_of w i = innermost (take i w)

-- event k is the start of the innermost element of the path
abbrev pub IsStartAt : List Event → ℕ → List Element → Type 0
IsStartAt w k [] = ⊥
IsStartAt w k (e ∷ path) = (attributes : List Attribute) × (slice_get w k ≡ Some (start e.name e.foreign attributes))

-- i is the least index at which the walks differ or one of them has ended
pub record DifferFirstAt (w v : List Event) (i : ℕ) : Type 0 where
  pub same_before : take i w ≡ take i v
  pub differ : slice_get w i ≢ slice_get v i

-- what a maker knows of its events beside what its table knows
pub record IsMaking (w : List Event) (start_above : Option ℕ) (open_elements : ℕ) : Type 0 where
  pub matched : ends_match [] w ≡ true
  pub apart : are_texts_apart w ≡ true
  pub parent : start_above ≡ innermost w
  pub depth : open_elements ≡ length (path_after [] w)
  pub room : HasRoom w

-- what a tree knows of its walk beside what its table knows
pub record IsMade (w : List Event) : Type 0 where
  pub matched : ends_match [] w ≡ true
  pub closed : path_after [] w ≡ []
  pub apart : are_texts_apart w ≡ true
