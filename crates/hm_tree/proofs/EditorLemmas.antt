-- The rows of an editor, step by step.
use Rattle.std.proofs.Common.{◌≡◌, ◌≢◌, ℕ, ◌+◌, ◌-◌, ◌^◌, ◌<◌, ◌≤◌, Bool, true, false, List, [], ◌∷◌, ◌++◌, length, take, drop, set, get_or, slice_get, slice_range, Option, Some, None, IfSome, IsUtf8, IsCharBoundary, sym, ap, ap₂, subst, ◌∙◌, refl, arith}
use Rattle.std.proofs.lemmas.List.{append-nil, drop-set, drop-set-lt, drop_more, length-drop, length-map, length-set, length-take, take-set-le, take_all, take_more_set, get_or-take, get_or-drop}
use Rattle.std.proofs.lemmas.Option.{slice_get-get_or, slice_get_past}
use Rattle.std.proofs.lemmas.Str.{IsUtf8-nil}
use Rattle.hm_base.specs.Bytes.{is_null}
use Rattle.hm_base.specs.Walks.{Event, text, begins_text, walk_size}
use Rattle.hm_tree.specs.Edits.{Edited, IsCut, IsEdited, IsEditing, IsShorter, kept, parent_after, with_first_cut, with_first_text, without_first}
use Rattle.hm_tree.specs.Pieces.{IsPiece, bytes_of}
use Rattle.hm_tree.specs.Rows.{CanShow, IsInside, IsTable, event_at, events_of}
use Rattle.hm_tree.specs.Trees.{IsMade, IsWalk, innermost, parent_of}
use Rattle.hm_tree.specs.declared.pieces.AttributePieces.{AttributePieces}
use Rattle.hm_tree.specs.declared.pieces.TextRange.{TextRange}
use Rattle.hm_tree.specs.declared.rows.RowPart.{RowPart}
use Rattle.hm_tree.specs.declared.rows.RowPart.TheVariants as parts
use Rattle.hm_tree.specs.declared.rows.EventRow.{EventRow}
use Rattle.hm_tree.proofs.EditLemmas.{IsWalk-of, walk_size-append}
use Rattle.hm_tree.proofs.EditedLemmas.{events_of-append-rows, piece_length, event_in, front_table, rest_shows, edited_keep, edited_without, edited_with, left_with, done_with, IsPiece-cut, bytes_of-cut, cut_length, cut_some}
use Rattle.hm_tree.proofs.OpenLemmas.{innermost_within}
use Rattle.hm_tree.proofs.PieceLemmas.{IsPiece-new, IsUtf8-bytes_of, bytes_of-new}
use Rattle.hm_tree.proofs.TableLemmas.{part_event, part_shows, row_parent}

abbrev pub pair_of : List Event → List Event → Edited
pair_of v l = record { done = v; left = l }

abbrev pub edited_of : List ℕ → List AttributePieces → List EventRow → ℕ → ℕ → Edited
edited_of s pieces rows done next = record { done = events_of s pieces (take done rows); left = events_of s pieces (drop next rows) }

-- what an editor holds, and what contracts see of it
abbrev pub Edits : List ℕ → List AttributePieces → List EventRow → ℕ → ℕ → Option ℕ → Edited → Type 0
Edits s pieces rows done next parent e = IsEditing s pieces rows done next parent × (edited_of s pieces rows done next ≡ e)

-- a tree is edited from its first event on
pub editing_begins : (s : List ℕ) (pieces : List AttributePieces) (rows : List EventRow) → IsTable s pieces rows → IsMade (events_of s pieces rows) → IsEditing s pieces rows 0 0 None
editing_begins s pieces rows table made = record {
  ordered = omega arith;
  within = omega arith;
  count = omega (arith, table.told.events, length-map rows (λ r. event_at s pieces r.part));
  edited = record {
    inside = table.inside;
    attributes = table.attributes;
    few = table.few;
    own = table.own;
    told = table.told;
    made = made;
    parents = refl;
    above = refl;
  };
}

module _ (s : List ℕ) (pieces : List AttributePieces) (rows : List EventRow) (done next : ℕ) (parent : Option ℕ) (h : IsEditing s pieces rows done next parent) where
  pub left_count : length (events_of s pieces (drop next rows)) ≡ length rows - next
  left_count = omega (arith, length-map (drop next rows) (λ r. event_at s pieces r.part), length-drop next rows)

  pub done_count : length (events_of s pieces (take done rows)) ≡ done
  done_count = omega (arith, length-map (take done rows) (λ r. event_at s pieces r.part), length-take done rows, h.ordered, h.within)

  front_count : length (take done rows) ≡ done
  front_count = omega (arith, length-take done rows, h.ordered, h.within)

  pub whole_walk : IsWalk (events_of s pieces (take done rows) ++ events_of s pieces (drop next rows))
  whole_walk =
      let all = events_of-append-rows s pieces (take done rows) (drop next rows) in
      subst IsWalk all (IsWalk-of (events_of s pieces (take done rows ++ drop next rows)) h.edited.told h.edited.made)

  -- the row at a place from the next one on
  module _ (i at : ℕ) (place : at ≡ next + i) (r : EventRow) (there : at < length rows) (is : r ≡ get_or rows at r) where
    row_left : slice_get (drop next rows) i ≡ Some r
    row_left =
        slice_get-get_or (drop next rows) i r (omega (arith, there, place, length-drop next rows))
        ∙ ap Some (get_or-drop next rows i r ∙ ap (λ k. get_or rows k r) (sym place) ∙ sym is)

    pub left_shows : CanShow s pieces r.part
    left_shows = rest_shows s pieces (take done rows) (drop next rows) parent h.edited i r row_left

    pub left_event : slice_get (events_of s pieces (drop next rows)) i ≡ Some (event_at s pieces r.part)
    left_event = event_in s pieces (drop next rows) i r row_left

  pub left_past : (i at : ℕ) → at ≡ next + i → length rows ≤ at → slice_get (events_of s pieces (drop next rows)) i ≡ None
  left_past i at place past = slice_get_past (events_of s pieces (drop next rows)) i (omega (arith, left_count, past, place))

  -- those that are done
  pub table_done : IsTable s pieces (take done rows)
  table_done = front_table s pieces (take done rows) (drop next rows) parent h.edited

  pub row_done : (i : ℕ) (r : EventRow) → i < done → r ≡ get_or rows i r → r ≡ get_or (take done rows) i r
  row_done i r within is = is ∙ sym (get_or-take done rows i r within)

  module _ (r : EventRow) (is : r ≡ get_or rows next r) (there : next < length rows) where
    next_first : drop next rows ≡ r ∷ drop (next + 1) rows
    next_first = drop_more rows next r there ∙ ap (λ q. q ∷ drop (next + 1) rows) (sym is)

    pub edited : IsEdited s pieces (take done rows) (r ∷ drop (next + 1) rows) parent
    edited = subst (λ rest. IsEdited s pieces (take done rows) rest parent) next_first h.edited

    pub left_first : events_of s pieces (drop next rows) ≡ event_at s pieces r.part ∷ events_of s pieces (drop (next + 1) rows)
    left_first = ap (events_of s pieces) next_first

    pub keeps : (q : EventRow) (after : Option ℕ) → q.part ≡ r.part → q.parent ≡ parent → after ≡ parent_after rows parent r.part done
        → Edits s pieces (set rows done q) (done + 1) (next + 1) after (kept (events_of s pieces (take done rows)) (events_of s pieces (drop next rows)))
    keeps q after part above is_after =
        let front = take done rows in
        let new : take (done + 1) (set rows done q) ≡ front ++ q ∷ [] = take_more_set rows done q (omega (arith, h.ordered, there)) in
        let rest : drop (next + 1) (set rows done q) ≡ drop (next + 1) rows = drop-set-lt (next + 1) rows done q (omega (arith, h.ordered)) in
        let again : take (length front) rows ≡ front = ap (λ n. take n rows) front_count in
        let following : after ≡ parent_after rows parent r.part (length front) = is_after ∙ ap (parent_after rows parent r.part) (sym front_count) in
        let put : events_of s pieces (front ++ q ∷ []) ≡ events_of s pieces front ++ event_at s pieces r.part ∷ [] = events_of-append-rows s pieces front (q ∷ []) ∙ ap (λ x. events_of s pieces front ++ event_at s pieces x ∷ []) part in (
          record {
            ordered = omega (arith, h.ordered);
            within = omega (arith, there, length-set rows done q);
            count = omega (arith, h.count, length-set rows done q);
            edited = rw (new, rest) (edited_keep s pieces front (drop (next + 1) rows) r parent edited q after rows part above again following);
          },
          rw (new, rest, put, left_first) refl,
        )

    module _ (p : TextRange) (raw : Bool) (text_is : r.part ≡ parts.Text raw p) where
      pub leaves_out : Edits s pieces rows done (next + 1) parent (record { done = events_of s pieces (take done rows); left = without_first (events_of s pieces (drop next rows)) })
      leaves_out = (
        record {
          ordered = omega (arith, h.ordered);
          within = omega (arith, there);
          count = h.count;
          edited = edited_without s pieces (take done rows) (drop (next + 1) rows) r parent edited p raw text_is;
        },
        rw left_first refl,
      )

      pub is_piece : IsPiece s p
      is_piece = let inside : IsInside s (length pieces) (parts.Text raw p) = rw text_is at (left_shows 0 next (omega arith) r there is).inside in inside

      pub left_text : events_of s pieces (drop next rows) ≡ text (bytes_of s p) raw ∷ events_of s pieces (drop (next + 1) rows)
      left_text = left_first ∙ ap (λ part. event_at s pieces part ∷ events_of s pieces (drop (next + 1) rows)) text_is

      -- other bytes stand in its place
      module _ (more u t : List ℕ) (q : EventRow) (o : TextRange) (bytes_are : s ++ more ≡ u) (part : q.part ≡ parts.Text raw o) (utf8 : IsUtf8 more) (piece : IsPiece u o) (bytes : bytes_of u o ≡ t)
          (t_utf8 : IsUtf8 t) (some : is_null t ≡ false) (short : length t ≤ length (bytes_of s p)) where
        front_same : take done (set rows next q) ≡ take done rows
        front_same = take-set-le done rows next q h.ordered

        rest_new : drop next (set rows next q) ≡ q ∷ drop (next + 1) rows
        rest_new = drop-set rows next q there

        there_changes : IsPiece (s ++ more) o → bytes_of (s ++ more) o ≡ t → Edits (s ++ more) pieces (set rows next q) done next parent (pair_of (events_of s pieces (take done rows)) (text t raw ∷ events_of s pieces (drop (next + 1) rows)))
        there_changes piece_there bytes_there =
            let front = take done rows in
            let rest = drop (next + 1) rows in
            let d : events_of (s ++ more) pieces (take done (set rows next q)) ≡ events_of s pieces front =
            ap (events_of (s ++ more) pieces) front_same ∙ done_with s pieces front rest r parent edited p raw text_is more t q o part utf8 piece_there bytes_there t_utf8 some short in
            let l : events_of (s ++ more) pieces (drop next (set rows next q)) ≡ text t raw ∷ events_of s pieces rest =
            ap (events_of (s ++ more) pieces) rest_new ∙ left_with s pieces front rest r parent edited p raw text_is more t q o part utf8 piece_there bytes_there t_utf8 some short in (
              record {
                ordered = h.ordered;
                within = omega (arith, h.within, length-set rows next q);
                count = omega (arith, h.count, length-set rows next q);
                edited = rw (front_same, rest_new) (edited_with s pieces front rest r parent edited p raw text_is more t q o part utf8 piece_there bytes_there t_utf8 some short);
              },
              ap₂ pair_of d l,
            )

        pub changes : Edits u pieces (set rows next q) done next parent (pair_of (events_of s pieces (take done rows)) (text t raw ∷ events_of s pieces (drop (next + 1) rows)))
        changes = subst (λ x. IsPiece x o → bytes_of x o ≡ t → Edits x pieces (set rows next q) done next parent (pair_of (events_of s pieces (take done rows)) (text t raw ∷ events_of s pieces (drop (next + 1) rows)))) bytes_are there_changes piece bytes

-- ---- What contracts see

module _ (s : List ℕ) (pieces : List AttributePieces) (rows : List EventRow) (done next : ℕ) (parent : Option ℕ) (h : IsEditing s pieces rows done next parent) (e : Edited) (view : edited_of s pieces rows done next ≡ e) where
  pub left_len : length e.left ≡ length rows - next
  left_len = ap (λ x. length x.left) (sym view) ∙ left_count s pieces rows done next parent h

  pub done_len : length e.done ≡ done
  done_len = ap (λ x. length x.done) (sym view) ∙ done_count s pieces rows done next parent h

  pub next_there : 0 < length e.left → next < length rows
  next_there some = omega (arith, left_len, some)

  pub walk_of : IsWalk (e.done ++ e.left)
  walk_of = rw (← view) (whole_walk s pieces rows done next parent h)

  pub shows_left : (i at : ℕ) → at ≡ next + i → (r : EventRow) → at < length rows → r ≡ get_or rows at r → slice_get e.left i ≡ Some (event_at s pieces r.part)
  shows_left i at place r there is = rw (← view) (left_event s pieces rows done next parent h i at place r there is)

  pub none_left : (i at : ℕ) → at ≡ next + i → length rows ≤ at → slice_get e.left i ≡ None
  none_left i at place past = rw (← view) (left_past s pieces rows done next parent h i at place past)

  -- row i of those that are done
  module _ (i : ℕ) (within : i < length e.done) (r : EventRow) (is : r ≡ get_or rows i r) where
    done_view : events_of s pieces (take done rows) ≡ e.done
    done_view = ap (λ x. x.done) view

    done_row : r ≡ get_or (take done rows) i r
    done_row = row_done s pieces rows done next parent h i r (omega (arith, done_len, within)) is

    pub shows_done : slice_get e.done i ≡ Some (event_at s pieces r.part)
    shows_done = part_event s pieces (take done rows) e.done done_view i within (table_done s pieces rows done next parent h) r done_row r.part refl

    pub can_show_done : CanShow s pieces r.part
    can_show_done = part_shows s pieces (take done rows) e.done done_view i within (table_done s pieces rows done next parent h) r done_row

    pub parent_done : r.parent ≡ parent_of e.done i
    parent_done = row_parent s pieces (take done rows) e.done done_view i within (table_done s pieces rows done next parent h) r done_row

  pub row_there : (i : ℕ) → i < length e.done → i < length rows
  row_there i within = omega (arith, done_len, within, h.ordered, h.within)

  -- the innermost open start
  pub parent_now : (i : ℕ) → i ≡ done → parent ≡ parent_of e.done i
  parent_now i here =
      let all : take i e.done ≡ e.done = take_all i e.done (omega (arith, here, done_len)) in
      h.edited.above ∙ ap innermost (ap (λ x. x.done) view ∙ sym all)

  pub parent_within : (k : ℕ) → parent ≡ Some k → k < done
  parent_within k is =
      omega (arith, innermost_within (events_of s pieces (take done rows)) k (sym is ∙ h.edited.above), done_count s pieces rows done next parent h)

  pub no_last_parent : parent ≢ Some 4294967295
  no_last_parent is = omega (arith, parent_within 4294967295 is, h.ordered, h.within, h.count)

  inside_by : (o : Option ℕ) → parent ≡ o → IfSome o (λ k. k < length rows)
  inside_by None is = tt
  inside_by (Some k) is = omega (arith, parent_within k is, h.ordered, h.within)

  pub parent_inside : IfSome parent (λ k. k < length rows)
  parent_inside = inside_by parent refl

-- ---- Each step

module _ (s : List ℕ) (pieces : List AttributePieces) (rows : List EventRow) (done next : ℕ) (parent : Option ℕ) (h : IsEditing s pieces rows done next parent) (e : Edited) (view : edited_of s pieces rows done next ≡ e) (r : EventRow) (is : r ≡ get_or rows next r) where
  pub keeps_so : 0 < length e.left → (q : EventRow) (after : Option ℕ) → q.part ≡ r.part → q.parent ≡ parent → after ≡ parent_after rows parent r.part done
      → Edits s pieces (set rows done q) (done + 1) (next + 1) after (kept e.done e.left)
  keeps_so some q after part above following = rw (← view) (keeps s pieces rows done next parent h r is (omega (arith, left_len s pieces rows done next parent h e view, some)) q after part above following)

  module _ (p : TextRange) (raw : Bool) (text_is : r.part ≡ parts.Text raw p) where
    there_by : 0 < length e.left → next < length rows
    there_by some = omega (arith, left_len s pieces rows done next parent h e view, some)

    cut_range : (l : List Event) (from to : ℕ) → IsCut l from to → 0 < length l
    cut_range [] from to c = absurd c
    cut_range (x ∷ l) from to c = omega arith

    cut_parts : (u : List ℕ) (raw : Bool) (l : List Event) (from to : ℕ) → IsCut (text u raw ∷ l) from to → (from < to) × IsCharBoundary u from × IsCharBoundary u to
    cut_parts u raw l from to c = c

    -- a part of the text
    module _ (from to : ℕ) (cut : IsCut e.left from to) where
      some : next < length rows
      some = there_by (cut_range e.left from to cut)

      is_text : e.left ≡ text (bytes_of s p) raw ∷ events_of s pieces (drop (next + 1) rows)
      is_text = ap (λ x. x.left) (sym view) ∙ left_text s pieces rows done next parent h r is some p raw text_is

      ranges : (from < to) × IsCharBoundary (bytes_of s p) from × IsCharBoundary (bytes_of s p) to
      ranges = cut_parts (bytes_of s p) raw (events_of s pieces (drop (next + 1) rows)) from to (subst (λ l. IsCut l from to) is_text cut)

      piece_is : IsPiece s p
      piece_is = is_piece s pieces rows done next parent h r is some p raw text_is

      -- it begins and ends in the piece
      pub cut_within : (from < to) × (p.from + to ≤ p.to)
      cut_within = (ranges.0, omega (arith, ranges.2.0, piece_length s p piece_is, piece_is.ordered))

      pub cut_small : to < 2 ^ 29
      cut_small =
          let walk = walk_of s pieces rows done next parent h e view in
          omega (arith, walk.bytes, walk_size-append e.done e.left, ap walk_size is_text, ranges.2.0)

      pub cuts : (utf8 : IsUtf8 s) → (q : EventRow) (o : TextRange) → q.part ≡ parts.Text raw o → o ≡ record { from = p.from + from; to = p.from + to }
          → Edits s pieces (set rows next q) done next parent (record { done = e.done; left = with_first_cut from to e.left })
      cuts utf8 q o part range =
          let piece : IsPiece s o = rw range (IsPiece-cut s p piece_is from to ranges.0 ranges.1 ranges.2) in
          let bytes : bytes_of s o ≡ slice_range (bytes_of s p) from to = rw range (bytes_of-cut s p piece_is from to ranges.0 ranges.2.0) in
          let t_utf8 : IsUtf8 (slice_range (bytes_of s p) from to) = rw bytes at (IsUtf8-bytes_of s o utf8 piece) in
          let new = changes s pieces rows done next parent h r is some p raw text_is [] s (slice_range (bytes_of s p) from to) q o (append-nil s) part IsUtf8-nil piece bytes t_utf8
          (cut_some (bytes_of s p) from to ranges.0 ranges.2.0) (cut_length s p piece_is from to ranges.2.0) in
          (new.0, new.1 ∙ rw (is_text, ← view) refl)

    shorter_some : (l : List Event) (t : List ℕ) → IsShorter l t → 0 < length l
    shorter_some [] t c = absurd c
    shorter_some (x ∷ l) t c = omega arith

    shorter_parts : (u t : List ℕ) (raw : Bool) (l : List Event) → IsShorter (text u raw ∷ l) t → (length t ≤ length u) × (is_null t ≡ false)
    shorter_parts u t raw l c = c

    -- another text
    pub puts : (t u : List ℕ) → IsShorter e.left t → IsUtf8 t → s ++ t ≡ u → (q : EventRow) (o : TextRange) → q.part ≡ parts.Text raw o → o.from ≡ length s → o.to ≡ length s + length t
        → Edits u pieces (set rows next q) done next parent (record { done = e.done; left = with_first_text t e.left })
    puts t u shorter utf8 bytes_are q o part from to =
        let some = there_by (shorter_some e.left t shorter) in
        let is_text : e.left ≡ text (bytes_of s p) raw ∷ events_of s pieces (drop (next + 1) rows) = ap (λ x. x.left) (sym view) ∙ left_text s pieces rows done next parent h r is some p raw text_is in
        let both = shorter_parts (bytes_of s p) t raw (events_of s pieces (drop (next + 1) rows)) (subst (λ l. IsShorter l t) is_text shorter) in
        let piece : IsPiece u o = rw (← bytes_are) (IsPiece-new s t o utf8 from to) in
        let bytes : bytes_of u o ≡ t = rw (← bytes_are) (bytes_of-new s t o from to) in
        let new = changes s pieces rows done next parent h r is some p raw text_is t u t q o bytes_are part utf8 piece bytes utf8 both.1 both.0 in
        (new.0, new.1 ∙ rw (is_text, ← view) refl)

-- a text goes
module _ (s : List ℕ) (pieces : List AttributePieces) (rows : List EventRow) (done next : ℕ) (parent : Option ℕ) (h : IsEditing s pieces rows done next parent) (e : Edited) (view : edited_of s pieces rows done next ≡ e) (begins : begins_text e.left ≡ true) where
  some_first : (l : List Event) → begins_text l ≡ true → 0 < length l
  some_first [] b = absurd (cc)
  some_first (x ∷ l) b = omega arith

  there : next < length rows
  there = omega (arith, left_len s pieces rows done next parent h e view, some_first e.left begins)

  first_row : (xs : List EventRow) → 0 < length xs → (r : EventRow) × (xs ≡ r ∷ drop 1 xs)
  first_row [] some = absurd (omega arith)
  first_row (x ∷ xs) some = (x, refl)

  row_of : (r : EventRow) × (drop next rows ≡ r ∷ drop 1 (drop next rows))
  row_of = first_row (drop next rows) (omega (arith, length-drop next rows, there))

  row_is : (r : EventRow) (xs : List EventRow) → drop next rows ≡ r ∷ xs → r ≡ get_or rows next r
  row_is r xs at =
      let here : next + 0 ≡ next = omega arith in
      sym (ap (λ zs. get_or zs 0 r) at) ∙ get_or-drop next rows 0 r ∙ ap (λ k. get_or rows k r) here

  text_by : (part : RowPart) (l : List Event) → begins_text (event_at s pieces part ∷ l) ≡ true → (p : TextRange) × (raw : Bool) × (part ≡ parts.Text raw p)
  text_by (parts.Doctype legacy) l b = absurd (cc)
  text_by (parts.Start foreign len count from first) l b = absurd (cc)
  text_by (parts.LongStart foreign count first) l b = absurd (cc)
  text_by (parts.Text raw p) l b = (p, raw, refl)
  text_by (parts.Comment p) l b = absurd (cc)
  text_by (parts.End foreign name) l b = absurd (cc)

  pub leaves_so : Edits s pieces rows done (next + 1) parent (record { done = e.done; left = without_first e.left })
  leaves_so =
      let r = row_of.0 in
      let is = row_is r (drop 1 (drop next rows)) row_of.1 in
      let left : e.left ≡ event_at s pieces r.part ∷ events_of s pieces (drop (next + 1) rows) = ap (λ x. x.left) (sym view) ∙ left_first s pieces rows done next parent h r is there in
      let found = text_by r.part (events_of s pieces (drop (next + 1) rows)) (rw left at begins) in
      rw (← view) (leaves_out s pieces rows done next parent h r is there found.0 found.1 found.2)

-- ---- The end

module _ (s : List ℕ) (pieces : List AttributePieces) (rows : List EventRow) (done next : ℕ) (parent : Option ℕ) (h : IsEditing s pieces rows done next parent) (e : Edited) (view : edited_of s pieces rows done next ≡ e) (ends : e.left ≡ []) where
  pub done_table : IsTable s pieces (take done rows)
  done_table = table_done s pieces rows done next parent h

  pub done_made : IsMade (events_of s pieces (take done rows))
  done_made =
      let walk : IsWalk (e.done ++ e.left) = walk_of s pieces rows done next parent h e view in
      let all : e.done ++ e.left ≡ e.done = ap (λ l. e.done ++ l) ends ∙ append-nil e.done in
      let whole : IsWalk e.done = subst IsWalk all walk in
      rw (ap (λ x. x.done) view) (record { matched = whole.matched; closed = whole.closed; apart = whole.apart })
