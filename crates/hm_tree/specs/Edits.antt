-- A tree whose events are gone through from the first to the last, each kept, changed or left out.
use Rattle.std.specs.Prelude.{◌≡◌, ℕ, zero, suc, ◌+◌, ◌^◌, ◌<◌, ◌≤◌, ◌&&◌, Bool, true, false, List, [], ◌∷◌, ◌++◌, length, map, take, drop, slice_get, slice_range, All, Option, Some, None, IsCharBoundary}
use Rattle.hm_base.specs.Bytes.{is_null}
use Rattle.hm_base.specs.Walks.{Attribute, Event, doctype, start, text, comment, begins_text, walk_size}
use Rattle.hm_tree.specs.Trees.{IsMade, IsTold, innermost}
use Rattle.hm_tree.specs.Pieces.{HasPieces}
use Rattle.hm_tree.specs.Rows.{AreInside, HaveOwn, events_of, parents_from}
use Rattle.hm_tree.specs.declared.pieces.AttributePieces.{AttributePieces}
use Rattle.hm_tree.specs.declared.rows.RowPart.{RowPart}
use Rattle.hm_tree.specs.declared.rows.RowPart.TheVariants as parts
use Rattle.hm_tree.specs.declared.rows.EventRow.{EventRow}

-- the events that are done, and those that are left
pub record Edited : Type 0 where
  pub done : List Event
  pub left : List Event

-- the last event of a list
abbrev pub last_event : List Event → Option Event
last_event [] = None
last_event (e ∷ []) = Some e
last_event (e ∷ x ∷ w) = last_event (x ∷ w)

-- the next event is done as it is
abbrev pub kept : List Event → List Event → Edited
kept v [] = record { done = v; left = [] }
kept v (e ∷ w) = record { done = v ++ e ∷ []; left = w }

-- all but the first
abbrev pub without_first : List Event → List Event
without_first [] = []
without_first (e ∷ w) = w

-- another text in place of that which is first
abbrev pub with_first_text : List ℕ → List Event → List Event
with_first_text t (text s raw ∷ w) = text t raw ∷ w
with_first_text t w = w

-- a part of the text that is first, in its place
abbrev pub with_first_cut : ℕ → ℕ → List Event → List Event
with_first_cut from to (text s raw ∷ w) = text (slice_range s from to) raw ∷ w
with_first_cut from to w = w

-- the bytes from one place up to another are a part of the text that is first, and not empty
abbrev pub IsCut : List Event → ℕ → ℕ → Type 0
IsCut (text s raw ∷ w) from to = (from < to) × IsCharBoundary s from × IsCharBoundary s to
IsCut w from to = ⊥

-- t is no longer than the text that is first, and not empty
abbrev pub IsShorter : List Event → List ℕ → Type 0
IsShorter (text s raw ∷ w) t = (length t ≤ length s) × (is_null t ≡ false)
IsShorter w t = ⊥

-- a doctype is first
abbrev pub begins_doctype : List Event → Bool
begins_doctype (doctype legacy ∷ w) = true
begins_doctype w = false

-- the plain doctype in place of the doctype that is first
abbrev pub with_plain_doctype : List Event → List Event
with_plain_doctype (doctype legacy ∷ w) = doctype false ∷ w
with_plain_doctype w = w

-- the start that is first has an attribute at this place
abbrev pub HasAttribute : List Event → ℕ → Type 0
HasAttribute (start n foreign attributes ∷ w) at = at < length attributes
HasAttribute w at = ⊥

-- the start that is first with its attributes changed
abbrev pub with_attributes : (List Attribute → List Attribute) → List Event → List Event
with_attributes f (start n foreign attributes ∷ w) = start n foreign (f attributes) ∷ w
with_attributes f w = w

-- attributes of which the one at a place has no value
abbrev pub without_value : ℕ → List Attribute → List Attribute
without_value at [] = []
without_value zero (a ∷ attributes) = record { name = a.name; value = [] } ∷ attributes
without_value (suc at) (a ∷ attributes) = a ∷ without_value at attributes

-- a text or a comment
abbrev pub is_loose : Event → Bool
is_loose (text s raw) = true
is_loose (comment s) = true
is_loose e = false

abbrev pub are_loose : List Event → Bool
are_loose [] = true
are_loose (e ∷ w) = is_loose e && are_loose w

-- The first event is a text, and after it stand n texts and comments, and no further text. t has no more bytes than all of them, and
-- isn't empty.
abbrev pub IsJoined : List Event → ℕ → List ℕ → Type 0
IsJoined (text s raw ∷ w) n t = (n ≤ length w) × (are_loose (take n w) ≡ true) × (begins_text (drop n w) ≡ false) × (length t ≤ length s + walk_size (take n w)) × (is_null t ≡ false)
IsJoined w n t = ⊥

-- t in place of the text that is first and of the n events after it
abbrev pub with_joined : ℕ → List ℕ → List Event → List Event
with_joined n t (text s raw ∷ w) = text t raw ∷ drop n w
with_joined n t w = w

-- The rows `front` are done and the rows `rest` are left, of which only those that are done have their parents.
pub record IsEdited (s : List ℕ) (pieces : List AttributePieces) (front rest : List EventRow) (parent : Option ℕ) : Type 0 where
  pub inside : AreInside s (length pieces) (front ++ rest)
  pub attributes : All (HasPieces s) pieces
  pub few : length pieces < 2 ^ 32
  pub own : HaveOwn 0 (front ++ rest)
  pub told : IsTold (events_of s pieces (front ++ rest))
  pub made : IsMade (events_of s pieces (front ++ rest))
  pub parents : map (λ r. r.parent) front ≡ parents_from [] 0 (events_of s pieces front)
  pub above : parent ≡ innermost (events_of s pieces front)

-- The rows before `done` are done, those from `next` on are left.
pub record IsEditing (s : List ℕ) (pieces : List AttributePieces) (rows : List EventRow) (done next : ℕ) (parent : Option ℕ) : Type 0 where
  pub ordered : done ≤ next
  pub within : next ≤ length rows
  pub count : length rows < 2 ^ 29
  pub edited : IsEdited s pieces (take done rows) (drop next rows) parent

abbrev row_parent : Option EventRow → Option ℕ
row_parent None = None
row_parent (Some r) = r.parent

-- the innermost start that is open after row `at`, where `parent` is that before it
abbrev pub parent_after : List EventRow → Option ℕ → RowPart → ℕ → Option ℕ
parent_after rows parent (parts.Doctype legacy) at = parent
parent_after rows parent (parts.Start foreign len count from first) at = Some at
parent_after rows parent (parts.LongStart foreign count first) at = Some at
parent_after rows parent (parts.Text raw p) at = parent
parent_after rows parent (parts.Comment p) at = parent
parent_after rows None (parts.End foreign name) at = None
parent_after rows (Some k) (parts.End foreign name) at = row_parent (slice_get rows k)
