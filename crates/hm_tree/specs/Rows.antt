-- How rows of a table stand for the events of a walk.
use Rattle.std.specs.Prelude.{◌≡◌, ℕ, ◌+◌, ◌^◌, ◌<◌, ◌≤◌, List, [], ◌∷◌, length, map, slice_range, slice_get, drop, All, Option, Bool, true, false, ◌++◌}
use Rattle.hm_base.specs.Walks.{Attribute, Event, doctype, start, text, comment, end, walk_size}
use Rattle.hm_tree.specs.Trees.{IsTold, is_sound, open_after_event}
use Rattle.hm_tree.specs.Pieces.{HasPieces, IsPiece, attributes_in, bytes_of, texts_of}
use Rattle.hm_tree.specs.Starts.{name_before, name_from}
use Rattle.hm_tree.specs.declared.pieces.AttributePieces.{AttributePieces}
use Rattle.hm_tree.specs.declared.rows.RowPart.{RowPart}
use Rattle.hm_tree.specs.declared.rows.RowPart.TheVariants as parts
use Rattle.hm_tree.specs.declared.rows.EventRow.{EventRow}

-- the event that a row stands for
abbrev pub event_at : List ℕ → List AttributePieces → RowPart → Event
event_at s pieces (parts.Doctype legacy) = doctype legacy
event_at s pieces (parts.Start foreign len count from first) = start (bytes_of s (name_from from len)) foreign (attributes_in s (slice_range pieces first (first + count)))
event_at s pieces (parts.LongStart foreign count first) = start (bytes_of s (name_before pieces first)) foreign (attributes_in s (slice_range pieces first (first + count)))
event_at s pieces (parts.Text raw p) = text (bytes_of s p) raw
event_at s pieces (parts.Comment p) = comment (bytes_of s p)
event_at s pieces (parts.End foreign name) = end (bytes_of s name) foreign

abbrev pub events_of : List ℕ → List AttributePieces → List EventRow → List Event
events_of s pieces rows = map (λ r. event_at s pieces r.part) rows

-- the parent of each event: the innermost start that is open before it
abbrev pub parents_from : List ℕ → ℕ → List Event → List (Option ℕ)
parents_from open_starts i [] = []
parents_from open_starts i (e ∷ w) = slice_get open_starts 0 ∷ parents_from (open_after_event open_starts i e) (i + 1) w

-- the row's pieces can be cut out of the text, and its attributes are some of n; a piece stands before those of a long start
abbrev pub IsInside : List ℕ → ℕ → RowPart → Type 0
IsInside s n (parts.Doctype legacy) = Unit {0}
IsInside s n (parts.Start foreign len count from first) = IsPiece s (name_from from len) × (first + count ≤ n)
IsInside s n (parts.LongStart foreign count first) = (0 < first) × (first + count ≤ n)
IsInside s n (parts.Text raw p) = IsPiece s p
IsInside s n (parts.Comment p) = IsPiece s p
IsInside s n (parts.End foreign name) = IsPiece s name

abbrev pub AreInside : List ℕ → ℕ → List EventRow → Type 0
AreInside s n [] = Unit {0}
AreInside s n (r ∷ rows) = IsInside s n r.part × AreInside s n rows

-- the attributes of a start, and the piece of its name, are none of the first n
abbrev pub IsAfter : ℕ → RowPart → Type 0
IsAfter n (parts.Doctype legacy) = Unit {0}
IsAfter n (parts.Start foreign len count from first) = n ≤ first
IsAfter n (parts.LongStart foreign count first) = n < first
IsAfter n (parts.Text raw p) = Unit {0}
IsAfter n (parts.Comment p) = Unit {0}
IsAfter n (parts.End foreign name) = Unit {0}

-- how many attributes stand before the end of a row's own, where n stand before them
abbrev pub own_end : ℕ → RowPart → ℕ
own_end n (parts.Doctype legacy) = n
own_end n (parts.Start foreign len count from first) = first + count
own_end n (parts.LongStart foreign count first) = first + count
own_end n (parts.Text raw p) = n
own_end n (parts.Comment p) = n
own_end n (parts.End foreign name) = n

-- no attribute, and no name in a piece, is that of two rows
abbrev pub HaveOwn : ℕ → List EventRow → Type 0
HaveOwn n [] = Unit {0}
HaveOwn n (r ∷ rows) = IsAfter n r.part × HaveOwn (own_end n r.part) rows

-- a text reaches to the end of the bytes
abbrev pub ReachesEnd : List ℕ → RowPart → Type 0
ReachesEnd s (parts.Doctype legacy) = Unit {0}
ReachesEnd s (parts.Start foreign len count from first) = Unit {0}
ReachesEnd s (parts.LongStart foreign count first) = Unit {0}
ReachesEnd s (parts.Text raw p) = p.to ≡ length s
ReachesEnd s (parts.Comment p) = Unit {0}
ReachesEnd s (parts.End foreign name) = Unit {0}

-- the last row, where it is a text, reaches to the end of the bytes
abbrev pub LastReachesEnd : List ℕ → List EventRow → Type 0
LastReachesEnd s [] = Unit {0}
LastReachesEnd s (r ∷ []) = ReachesEnd s r.part
LastReachesEnd s (r ∷ q ∷ rows) = LastReachesEnd s (q ∷ rows)

-- a table of rows, with the bytes and the attributes that they point into; others may be there too
pub record IsTable (s : List ℕ) (pieces : List AttributePieces) (rows : List EventRow) : Type 0 where
  pub inside : AreInside s (length pieces) rows
  pub attributes : All (HasPieces s) pieces
  pub few : length pieces < 2 ^ 32
  pub own : HaveOwn 0 rows
  pub parents : map (λ r. r.parent) rows ≡ parents_from [] 0 (events_of s pieces rows)
  pub told : IsTold (events_of s pieces rows)

-- the event of a row can be shown
pub record CanShow (s : List ℕ) (pieces : List AttributePieces) (part : RowPart) : Type 0 where
  pub inside : IsInside s (length pieces) part
  pub attributes : All (HasPieces s) pieces
  pub few : length pieces < 2 ^ 32
  pub sound : is_sound (event_at s pieces part) ≡ true

-- the table of a tree that is being made, which has nothing else
pub record IsRowTable (s : List ℕ) (pieces : List AttributePieces) (rows : List EventRow) : Type 0 where
  pub inside : AreInside s (length pieces) rows
  pub attributes : All (HasPieces s) pieces
  pub own : HaveOwn 0 rows
  pub parents : map (λ r. r.parent) rows ≡ parents_from [] 0 (events_of s pieces rows)
  pub last : LastReachesEnd s rows
  pub told : IsTold (events_of s pieces rows)
  pub size : length s ≤ walk_size (events_of s pieces rows)
  pub count : length pieces ≤ walk_size (events_of s pieces rows) + length rows + length rows

-- The name n and the attributes of a start were appended to a text s and the pieces in it, so that there are then a text t and
-- these pieces, and the start's row is this one.
pub record IsStartAppended (s : List ℕ) (before : List AttributePieces) (n : List ℕ) (foreign : Bool) (attributes : List Attribute) (t : List ℕ) (pieces : List AttributePieces) (part : RowPart) : Type 0 where
  pub text : t ≡ s ++ (n ++ texts_of attributes)
  pub kept : before ++ drop (length before) pieces ≡ pieces
  pub pieces_inside : All (HasPieces t) (drop (length before) pieces)
  pub few : length (drop (length before) pieces) ≤ length attributes + 1
  pub row_inside : IsInside t (length pieces) part
  pub after : IsAfter (length before) part
  pub reaches : ReachesEnd t part
  pub event : event_at t pieces part ≡ start n foreign attributes

abbrev pub is_text : Event → Bool
is_text (doctype legacy) = false
is_text (start n foreign attributes) = false
is_text (text s raw) = true
is_text (comment s) = false
is_text (end n foreign) = false

-- a text stands last
abbrev pub ends_in_text : List Event → Bool
ends_in_text [] = false
ends_in_text (e ∷ []) = is_text e
ends_in_text (e ∷ x ∷ w) = ends_in_text (x ∷ w)

-- a text with more bytes, any other event as it is
abbrev pub with_more : Event → List ℕ → Event
with_more (doctype legacy) more = doctype legacy
with_more (start n foreign attributes) more = start n foreign attributes
with_more (text s raw) more = text (s ++ more) raw
with_more (comment s) more = comment s
with_more (end n foreign) more = end n foreign

-- the events, where the text that stands last has more bytes
abbrev pub extended : List Event → List ℕ → List Event
extended [] more = []
extended (e ∷ []) more = with_more e more ∷ []
extended (e ∷ x ∷ w) more = e ∷ extended (x ∷ w) more
