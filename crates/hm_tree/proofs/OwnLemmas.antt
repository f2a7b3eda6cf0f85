-- A table in which an attribute goes after the others of its row.
use Rattle.std.proofs.Common.{◌≡◌, ℕ, zero, suc, ◌+◌, ◌-◌, ◌<◌, ◌≤◌, List, [], ◌∷◌, ◌++◌, length, get_or, take, drop, slice_get, slice_range, Some, None, All, ap, ap₂, ◌∙◌, refl, sym, subst, arith, length-append, length-take, length-drop}
use Rattle.std.proofs.lemmas.List.Elements.{All-append, All-take, All-drop}
use Rattle.std.proofs.lemmas.List.{length-map}
use Rattle.std.proofs.lemmas.Option.{slice_get_read}
use Rattle.std.proofs.lemmas.Slice.{between_is, take-put_mid_below, drop-put_mid, between-put_mid}
use Rattle.hm_base.specs.Walks.{Event, start}
use Rattle.hm_tree.specs.Moved.{moved, with_moved, put_last, with_part}
use Rattle.hm_tree.specs.Pieces.{HasPieces, attribute_in, attributes_in, bytes_of}
use Rattle.hm_tree.specs.Rows.{AreInside, IsAfter, own_end, HaveOwn, IsTable, event_at, events_of, parents_from}
use Rattle.hm_tree.specs.Starts.{flag_of, name_at, name_from, own_of}
use Rattle.hm_tree.specs.Trees.{IsTold}
use Rattle.hm_tree.specs.declared.pieces.AttributePieces.{AttributePieces}
use Rattle.hm_tree.specs.declared.rows.RowPart.{RowPart}
use Rattle.hm_tree.specs.declared.rows.RowPart.TheVariants as parts
use Rattle.hm_tree.specs.declared.rows.EventRow.{EventRow}
use Rattle.hm_tree.proofs.MovedLemmas.{All-moved, length-moved, map-moved, moved_past, put_last-same, parents_from-put_last, IsTold-put_last}
use Rattle.hm_tree.proofs.PartLemmas.{IsStart, grows, name_stays}
use Rattle.hm_tree.proofs.TableLemmas.{part_event, row_within}
use Rattle.hm_tree.proofs.TableLemmas as tables

-- the bytes, attributes and rows are a table for these events
abbrev pub Shows : List ℕ → List AttributePieces → List EventRow → List Event → Type 0
Shows s pieces rows w = IsTable s pieces rows × (events_of s pieces rows ≡ w)

begins_later : (n : ℕ) (rows : List EventRow) (i : ℕ) (r : EventRow) (first count : ℕ) → HaveOwn n rows → slice_get rows i ≡ Some r → IsStart r.part first count → n ≤ first
begins_later n [] i r first count own at is = absurd (cc)
begins_later n (q ∷ rows) zero r first count own at is =
    let same : q ≡ r = cc in
    is.after n (subst (λ (x : EventRow). IsAfter n x.part) same own.0)
begins_later n (q ∷ rows) (suc i) r first count own at is =
    let later = begins_later (own_end n q.part) rows i r first count own.1 at is in
    omega (arith, later, grows n q.part own.0)

begins_there : (n : ℕ) (rows rest : List EventRow) (r : EventRow) (first count : ℕ) → HaveOwn n (rows ++ r ∷ rest) → IsStart r.part first count → n ≤ first
begins_there n [] rest r first count own is = is.after n own.0
begins_there n (q ∷ rows) rest r first count own is =
    let later = begins_there (own_end n q.part) rows rest r first count own.1 is in
    omega (arith, later, grows n q.part own.0)

-- attributes that differ from others only in those of one row
module _ (s : List ℕ) (old new : List AttributePieces) (first count : ℕ) (below : (from to : ℕ) → to ≤ first → slice_range new from to ≡ slice_range old from to)
    (above : (from to : ℕ) → first + count ≤ from → slice_range new from to ≡ slice_range old from to) where
  stays_above : (n : ℕ) (part : RowPart) → first + count ≤ n → IsAfter n part → event_at s new part ≡ event_at s old part
  stays_above n (parts.Doctype legacy) le h = refl
  stays_above n (parts.Start foreign len c from at) le h = ap (λ x. start (bytes_of s (name_from from len)) foreign (attributes_in s x)) (above at (at + c) (omega (arith, le, h)))
  stays_above n (parts.LongStart foreign c at) le h =
      ap₂ (λ p x. start (bytes_of s p) foreign (attributes_in s x)) (name_stays old new at (omega (arith, h)) (above (at - 1) at (omega (arith, le, h)))) (above at (at + c) (omega (arith, le, h)))
  stays_above n (parts.Text raw p) le h = refl
  stays_above n (parts.Comment p) le h = refl
  stays_above n (parts.End foreign name) le h = refl

  pub all_above : (n : ℕ) (rows : List EventRow) → first + count ≤ n → HaveOwn n rows → events_of s new rows ≡ events_of s old rows
  all_above n [] le h = refl
  all_above n (r ∷ rows) le h = ap₂ (λ e w. e ∷ w) (stays_above n r.part le h.0) (all_above (own_end n r.part) rows (let more = grows n r.part h.0 in omega (arith, le, more)) h.1)

  stays_below : (n : ℕ) (part : RowPart) → IsAfter n part → own_end n part ≤ first → event_at s new part ≡ event_at s old part
  stays_below n (parts.Doctype legacy) h le = refl
  stays_below n (parts.Start foreign len c from at) h le = ap (λ x. start (bytes_of s (name_from from len)) foreign (attributes_in s x)) (below at (at + c) le)
  stays_below n (parts.LongStart foreign c at) h le =
      ap₂ (λ p x. start (bytes_of s p) foreign (attributes_in s x)) (name_stays old new at (omega (arith, h)) (below (at - 1) at (omega (arith, le)))) (below at (at + c) le)
  stays_below n (parts.Text raw p) h le = refl
  stays_below n (parts.Comment p) h le = refl
  stays_below n (parts.End foreign name) h le = refl

  -- the rows before that row
  pub all_below : (n : ℕ) (rows rest : List EventRow) (r : EventRow) → IsStart r.part first count → HaveOwn n (rows ++ r ∷ rest) → events_of s new rows ≡ events_of s old rows
  all_below n [] rest r is own = refl
  all_below n (q ∷ rows) rest r is own =
      let later = begins_there (own_end n q.part) rows rest r first count own.1 is in
      ap₂ (λ e w. e ∷ w) (stays_below n q.part own.0 later) (all_below (own_end n q.part) rows rest r is own.1)

module _ (s : List ℕ) (old new : List AttributePieces) (first count at : ℕ) (below : (from to : ℕ) → to ≤ first → slice_range new from to ≡ slice_range old from to)
    (above : (from to : ℕ) → first + count ≤ from → slice_range new from to ≡ slice_range old from to) (own : slice_range new first (first + count) ≡ moved at (slice_range old first (first + count))) where
  -- the one row
  moves : (n : ℕ) (part : RowPart) → IsStart part first count → IsAfter n part → event_at s new part ≡ with_moved at (event_at s old part)
  moves n part is h =
      let shown : attributes_in s (slice_range new first (first + count)) ≡ moved at (attributes_in s (slice_range old first (first + count))) =
      ap (attributes_in s) own ∙ map-moved (attribute_in s) at (slice_range old first (first + count)) in
      is.event s new ∙ ap₂ (λ p attributes. start (bytes_of s p) (flag_of part) attributes) (is.stays n h old new below) shown ∙ ap (with_moved at) (sym (is.event s old))

  ends_there : (n : ℕ) (part : RowPart) → IsStart part first count → first + count ≤ own_end n part
  ends_there n part is = omega (arith, is.ends n)

  events_moved : (n : ℕ) (rows : List EventRow) (i : ℕ) (r : EventRow) → HaveOwn n rows → slice_get rows i ≡ Some r → IsStart r.part first count → events_of s new rows ≡ put_last (events_of s old rows) i at
  events_moved n [] i r h there is = absurd (cc)
  events_moved n (q ∷ rows) zero r h there is =
      let same : q ≡ r = cc in
      let start_is : IsStart q.part first count = subst (λ (x : EventRow). IsStart x.part first count) (sym same) is in
      ap₂ (λ e w. e ∷ w) (moves n q.part start_is h.0) (all_above s old new first count below above (own_end n q.part) rows (ends_there n q.part start_is) h.1)
  events_moved n (q ∷ rows) (suc i) r h there is =
      let later = begins_later (own_end n q.part) rows i r first count h.1 there is in
      ap₂ (λ e w. e ∷ w) (stays_below s old new first count below above n q.part h.0 later) (events_moved (own_end n q.part) rows i r h.1 there is)

  -- the table stays one
  table_moved : (rows : List EventRow) (i : ℕ) (r : EventRow) → slice_get rows i ≡ Some r → IsStart r.part first count → length new ≡ length old → All (HasPieces s) new → IsTable s old rows
      → Shows s new rows (put_last (events_of s old rows) i at)
  table_moved rows i r there is as_many inside table =
      let w = events_of s old rows in
      let view : events_of s new rows ≡ put_last w i at = events_moved 0 rows i r table.own there is in (
        record {
          inside = subst (λ n. AreInside s n rows) (sym as_many) table.inside;
          attributes = inside;
          own = table.own;
          parents = table.parents ∙ sym (parents_from-put_last [] 0 w i at) ∙ ap (parents_from [] 0) (sym view);
          few = rw as_many table.few;
          told = subst IsTold (sym view) (IsTold-put_last w i at table.told);
        },
        view,
      )

-- a part of the attributes with others, as many, in its place
module _ (old own : List AttributePieces) (first count : ℕ) (as_many_own : length own ≡ count) (range : first + count ≤ length old) where
  abbrev new : List AttributePieces
  new = with_part first count old own

  begins : first ≤ length old
  begins = omega (arith, range)

  pub part_count : length new ≡ length old
  part_count = omega (arith, length-append (take first old) (own ++ drop count (drop first old)), length-append own (drop count (drop first old)), length-take first old, length-drop first old, length-drop count (drop first old), as_many_own, range)

  pub part_below : (from to : ℕ) → to ≤ first → slice_range new from to ≡ slice_range old from to
  part_below from to le = between_is new from to ∙ ap (drop from) (take-put_mid_below first count old own to le begins) ∙ sym (between_is old from to)

  pub part_above : (from to : ℕ) → first + count ≤ from → slice_range new from to ≡ slice_range old from to
  part_above from to le = ap (take (to - from)) (drop-put_mid first count old own from le begins as_many_own)

  pub part_own : slice_range new first (first + count) ≡ own
  part_own = between-put_mid first count old own (first + count) begins (omega (arith, as_many_own))

  pub part_inside : (s : List ℕ) → All (HasPieces s) old → All (HasPieces s) own → All (HasPieces s) new
  part_inside s h mine =
      All-append (HasPieces s) (take first old) (own ++ drop count (drop first old)) (All-take (HasPieces s) first old h)
      (All-append (HasPieces s) own (drop count (drop first old)) mine (All-drop (HasPieces s) count (drop first old) (All-drop (HasPieces s) first old h)))

pub own_count : (old : List AttributePieces) (first count : ℕ) → first + count ≤ length old → length (slice_range old first (first + count)) ≡ count
own_count old first count range = omega (arith, length-take (first + count - first) (drop first old), length-drop first old, range)

pub own_inside : (s : List ℕ) (old : List AttributePieces) (first count : ℕ) → All (HasPieces s) old → All (HasPieces s) (slice_range old first (first + count))
own_inside s old first count h = All-take (HasPieces s) (first + count - first) (drop first old) (All-drop (HasPieces s) first old h)

-- a part of the attributes, in which one goes after the others
module _ (s : List ℕ) (old : List AttributePieces) (first count at : ℕ) (range : first + count ≤ length old) where
  abbrev own : List AttributePieces
  own = moved at (slice_range old first (first + count))

  as_many : length own ≡ count
  as_many = length-moved at (slice_range old first (first + count)) ∙ own_count old first count range

  pub Shows-moved : (rows : List EventRow) (w : List Event) (i : ℕ) (r : EventRow) → events_of s old rows ≡ w → slice_get rows i ≡ Some r → IsStart r.part first count → IsTable s old rows
      → Shows s (with_part first count old (moved at (slice_range old first (first + count)))) rows (put_last w i at)
  Shows-moved rows w i r view there is table =
      subst (λ v. Shows s (with_part first count old own) rows (put_last v i at)) view
      (table_moved s old (with_part first count old own) first count at (part_below old own first count as_many range) (part_above old own first count as_many range) (part_own old own first count as_many range) rows i r there is
      (part_count old own first count as_many range)
      (part_inside old own first count as_many range s table.attributes (All-moved (HasPieces s) at (slice_range old first (first + count)) (own_inside s old first count table.attributes))) table)

-- ---- A row of a table whose events are w

module _ (s : List ℕ) (pieces : List AttributePieces) (rows : List EventRow) (w : List Event) (view : events_of s pieces rows ≡ w) (i : ℕ) (within : i < length w) (table : IsTable s pieces rows) (r : EventRow) (is : r ≡ get_or rows i r) (at : ℕ) where
  there : slice_get rows i ≡ Some r
  there = slice_get_read rows (length rows) i r refl (row_within s pieces rows w view i within) is

  -- an attribute goes after the others
  pub row_moved : (first count : ℕ) → IsStart r.part first count → (after : List AttributePieces) → after ≡ with_part first count pieces (moved at (slice_range pieces first (first + count)))
      → Shows s after rows (put_last w i at)
  row_moved first count part after e =
      let range : first + count ≤ length pieces = part.within s (length pieces) (tables.part_inside s pieces rows w view i within table r is r.part refl) in
      subst (λ x. Shows s x rows (put_last w i at)) (sym e) (Shows-moved s pieces first count at range rows w i r view there part table)

  -- there is no such attribute
  pub row_past : (first count : ℕ) → IsStart r.part first count → count ≤ at → put_last w i at ≡ w
  row_past first count part past =
      let own = slice_range pieces first (first + count) in
      let range : first + count ≤ length pieces = part.within s (length pieces) (tables.part_inside s pieces rows w view i within table r is r.part refl) in
      let as_many : length (attributes_in s own) ≡ count = length-map own (attribute_in s) ∙ own_count pieces first count range in
      let n = bytes_of s (name_at pieces r.part) in
      put_last-same w i at (start n (flag_of r.part) (attributes_in s own)) (part_event s pieces rows w view i within table r is r.part refl ∙ ap Some (part.event s pieces))
      (ap (start n (flag_of r.part)) (moved_past at (attributes_in s own) (omega (arith, as_many, past))))

  -- another event has none
  pub row_other : own_of r.part ≡ None → put_last w i at ≡ w
  row_other none = put_last-same w i at (event_at s pieces r.part) (part_event s pieces rows w view i within table r is r.part refl) (by_part r.part none)
    where
      by_part : (part : RowPart) → own_of part ≡ None → with_moved at (event_at s pieces part) ≡ event_at s pieces part
      by_part (parts.Doctype legacy) e = refl
      by_part (parts.Start foreign len count from first) e = absurd (cc)
      by_part (parts.LongStart foreign count first) e = absurd (cc)
      by_part (parts.Text raw p) e = refl
      by_part (parts.Comment p) e = refl
      by_part (parts.End foreign name) e = refl
