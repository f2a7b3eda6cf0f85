-- The steps of an editor that leave out comments and join texts.
use Rattle.std.proofs.Common.{◌≡◌, ℕ, ◌+◌, ◌<◌, ◌≤◌, Bool, true, false, List, [], ◌∷◌, ◌++◌, length, take, drop, set, get_or, Option, None, IsUtf8, sym, ap, ap₂, subst, ◌∙◌, refl, arith}
use Rattle.std.proofs.lemmas.Bool.{and_parts}
use Rattle.std.proofs.lemmas.List.{append-nil, drop-drop, drop-map, drop-set, length-drop, length-map, length-set, take-append-drop, take-map, take-set-le}
use Rattle.std.proofs.lemmas.Str.{is_utf8-from_IsUtf8}
use Rattle.hm_base.specs.Bytes.{is_null}
use Rattle.hm_base.specs.Walks.{Event, text, comment, begins_comment, begins_text, walk_size}
use Rattle.hm_tree.specs.Edits.{Edited, IsEdited, IsEditing, IsJoined, are_loose, is_loose, with_joined, without_first}
use Rattle.hm_tree.specs.Pieces.{IsPiece, bytes_of}
use Rattle.hm_tree.specs.Rows.{AreInside, HaveOwn, IsAfter, ends_in_text, event_at, events_of, own_end}
use Rattle.hm_tree.specs.declared.pieces.AttributePieces.{AttributePieces}
use Rattle.hm_tree.specs.declared.pieces.TextRange.{TextRange}
use Rattle.hm_tree.specs.declared.rows.RowPart.{RowPart}
use Rattle.hm_tree.specs.declared.rows.RowPart.TheVariants as parts
use Rattle.hm_tree.specs.declared.rows.EventRow.{EventRow}
use Rattle.hm_tree.proofs.ChangedLemmas.{first_is}
use Rattle.hm_tree.proofs.EditedLemmas.{AreInside-front, events_of-append-rows, get_or-other, inside_longer, inside_without}
use Rattle.hm_tree.proofs.EditorLemmas.{Edits, edited, edited_of, left_len, pair_of}
use Rattle.hm_tree.proofs.LikeLemmas.{IsMade-joined, IsMade-uncommented, IsTold-joined, IsTold-uncommented}
use Rattle.hm_tree.proofs.PieceLemmas.{IsPiece-new, bytes_of-new}
use Rattle.hm_tree.proofs.ShownLemmas.{HasPieces-append}
use Rattle.hm_tree.proofs.TableLemmas.{events_of-append}

-- ---- A comment goes

own_skip : (n : ℕ) (front rest : List EventRow) (r : EventRow) → ((k : ℕ) → own_end k r.part ≡ k) → HaveOwn n (front ++ r ∷ rest) → HaveOwn n (front ++ rest)
own_skip n [] rest r same h = subst (λ k. HaveOwn k rest) (same n) h.1
own_skip n (x ∷ front) rest r same h = (h.0, own_skip (own_end n x.part) front rest r same h.1)

comment_by : (s : List ℕ) (pieces : List AttributePieces) (part : RowPart) (l : List Event) → begins_comment (event_at s pieces part ∷ l) ≡ true → (p : TextRange) × (part ≡ parts.Comment p)
comment_by s pieces (parts.Doctype legacy) l b = absurd (cc)
comment_by s pieces (parts.Start foreign len count from first) l b = absurd (cc)
comment_by s pieces (parts.LongStart foreign count first) l b = absurd (cc)
comment_by s pieces (parts.Text raw p) l b = absurd (cc)
comment_by s pieces (parts.Comment p) l b = (p, refl)
comment_by s pieces (parts.End foreign name) l b = absurd (cc)

edited_uncommented : (s : List ℕ) (pieces : List AttributePieces) (front rest : List EventRow) (r : EventRow) (parent : Option ℕ) (p : TextRange) → r.part ≡ parts.Comment p → ends_in_text (events_of s pieces front) ≡ false → IsEdited s pieces front (r ∷ rest) parent → IsEdited s pieces front rest parent
edited_uncommented s pieces front rest r parent p is other h =
    let v = events_of s pieces front in
    let l = events_of s pieces rest in
    let was : events_of s pieces (front ++ r ∷ rest) ≡ v ++ comment (bytes_of s p) ∷ l = events_of-append-rows s pieces front (r ∷ rest) ∙ ap (λ part. v ++ event_at s pieces part ∷ l) is in
    let now : events_of s pieces (front ++ rest) ≡ v ++ l = events_of-append-rows s pieces front rest in
    record {
      inside = inside_without s (length pieces) front rest r h.inside;
      attributes = h.attributes;
      few = h.few;
      own = own_skip 0 front rest r (λ k. ap (own_end k) is) h.own;
      told = rw now (IsTold-uncommented (bytes_of s p) l v (rw was at h.told));
      made = rw now (IsMade-uncommented (bytes_of s p) l v other (rw was at h.made));
      parents = h.parents;
      above = h.above;
    }

some_comment : (l : List Event) → begins_comment l ≡ true → 0 < length l
some_comment [] b = absurd (cc)
some_comment (x ∷ l) b = omega arith

module _ (s : List ℕ) (pieces : List AttributePieces) (rows : List EventRow) (done next : ℕ) (parent : Option ℕ) (h : IsEditing s pieces rows done next parent) (e : Edited) (view : edited_of s pieces rows done next ≡ e) where
  pub leaves_comment : begins_comment e.left ≡ true → ends_in_text e.done ≡ false → Edits s pieces rows done (next + 1) parent (pair_of e.done (without_first e.left))
  leaves_comment begins other =
      let there : next < length rows = omega (arith, left_len s pieces rows done next parent h e view, some_comment e.left begins) in
      let d : EventRow = record { part = parts.Doctype false; parent = None } in
      let r = get_or rows next d in
      let is : r ≡ get_or rows next r = get_or-other rows next d there in
      let left = first_is s pieces rows done next parent h e view r is there in
      let found = comment_by s pieces r.part (events_of s pieces (drop (next + 1) rows)) (rw left at begins) in
      let before = edited s pieces rows done next parent h r is there in (
        record {
          ordered = omega (arith, h.ordered);
          within = omega (arith, there);
          count = h.count;
          edited = edited_uncommented s pieces (take done rows) (drop (next + 1) rows) r parent found.0 found.1 (rw (ap (λ x. x.done) view) other) before;
        },
        ap₂ pair_of (ap (λ x. x.done) view) (sym (ap without_first left)),
      )

some_joined : (l : List Event) (n : ℕ) (t : List ℕ) → IsJoined l n t → 0 < length l
some_joined [] n t given = absurd given
some_joined (x ∷ l) n t given = omega arith

pub there_to_join : (s : List ℕ) (pieces : List AttributePieces) (rows : List EventRow) (done next : ℕ) (parent : Option ℕ) (h : IsEditing s pieces rows done next parent) (e : Edited) (view : edited_of s pieces rows done next ≡ e) (n : ℕ) (t : List ℕ) → IsJoined e.left n t → next < length rows
there_to_join s pieces rows done next parent h e view n t given = omega (arith, left_len s pieces rows done next parent h e view, some_joined e.left n t given)

-- ---- Texts are joined

AreInside-both : (s : List ℕ) (n : ℕ) (front rest : List EventRow) → AreInside s n front → AreInside s n rest → AreInside s n (front ++ rest)
AreInside-both s n [] rest h g = g
AreInside-both s n (x ∷ front) rest h g = (h.0, AreInside-both s n front rest h.1 g)

loose_end : (s : List ℕ) (pieces : List AttributePieces) (n : ℕ) (part : RowPart) → is_loose (event_at s pieces part) ≡ true → own_end n part ≡ n
loose_end s pieces n (parts.Doctype legacy) h = absurd (cc)
loose_end s pieces n (parts.Start foreign len count from first) h = absurd (cc)
loose_end s pieces n (parts.LongStart foreign count first) h = absurd (cc)
loose_end s pieces n (parts.Text raw p) h = refl
loose_end s pieces n (parts.Comment p) h = refl
loose_end s pieces n (parts.End foreign name) h = absurd (cc)

own_loose : (s : List ℕ) (pieces : List AttributePieces) (n : ℕ) (mid tail : List EventRow) → are_loose (events_of s pieces mid) ≡ true → HaveOwn n (mid ++ tail) → HaveOwn n tail
own_loose s pieces n [] tail loose h = h
own_loose s pieces n (x ∷ mid) tail loose h =
    let both = and_parts (is_loose (event_at s pieces x.part)) (are_loose (events_of s pieces mid)) loose in
    own_loose s pieces n mid tail both.1 (subst (λ k. HaveOwn k (mid ++ tail)) (loose_end s pieces n x.part both.0) h.1)

own_joined : (s : List ℕ) (pieces : List AttributePieces) (n : ℕ) (front mid tail : List EventRow) (r q : EventRow) (p o : TextRange) (raw : Bool) → r.part ≡ parts.Text raw p → q.part ≡ parts.Text raw o → are_loose (events_of s pieces mid) ≡ true
    → HaveOwn n (front ++ r ∷ (mid ++ tail)) → HaveOwn n (front ++ q ∷ tail)
own_joined s pieces n [] mid tail r q p o raw was part loose h =
    (subst (IsAfter n) (sym part) tt, subst (λ k. HaveOwn k tail) (sym (ap (own_end n) part)) (own_loose s pieces n mid tail loose (subst (λ k. HaveOwn k (mid ++ tail)) (ap (own_end n) was) h.1)))
own_joined s pieces n (x ∷ front) mid tail r q p o raw was part loose h = (h.0, own_joined s pieces (own_end n x.part) front mid tail r q p o raw was part loose h.1)

module _ (s : List ℕ) (pieces : List AttributePieces) (front mid tail : List EventRow) (r : EventRow) (parent : Option ℕ) (before : IsEdited s pieces front (r ∷ (mid ++ tail)) parent) (p : TextRange) (raw : Bool) (was : r.part ≡ parts.Text raw p)
    (loose : are_loose (events_of s pieces mid) ≡ true) (apart : begins_text (events_of s pieces tail) ≡ false)
    (more t : List ℕ) (q : EventRow) (o : TextRange) (part : q.part ≡ parts.Text raw o) (utf8 : IsUtf8 more) (piece : IsPiece (s ++ more) o) (bytes : bytes_of (s ++ more) o ≡ t)
    (t_utf8 : IsUtf8 t) (some : is_null t ≡ false) (short : length t ≤ length (bytes_of s p) + walk_size (events_of s pieces mid)) where
  abbrev v : List Event
  v = events_of s pieces front

  abbrev m : List Event
  m = events_of s pieces mid

  abbrev l : List Event
  l = events_of s pieces tail

  all_before : events_of s pieces (front ++ r ∷ (mid ++ tail)) ≡ v ++ text (bytes_of s p) raw ∷ (m ++ l)
  all_before =
      events_of-append-rows s pieces front (r ∷ (mid ++ tail))
      ∙ ap₂ (λ x y. v ++ event_at s pieces x ∷ y) was (events_of-append-rows s pieces mid tail)

  parts_inside : AreInside s (length pieces) front × AreInside s (length pieces) tail
  parts_inside =
      let a = AreInside-front s (length pieces) front (r ∷ (mid ++ tail)) before.inside in
      (a.0, (AreInside-front s (length pieces) mid tail a.1.1).1)

  pub front_stays : events_of (s ++ more) pieces front ≡ v
  front_stays = rw append-nil at (events_of-append s more pieces [] front parts_inside.0 before.attributes)

  pub tail_stays : events_of (s ++ more) pieces tail ≡ l
  tail_stays = rw append-nil at (events_of-append s more pieces [] tail parts_inside.1 before.attributes)

  all_after : events_of (s ++ more) pieces (front ++ q ∷ tail) ≡ v ++ text t raw ∷ l
  all_after = events_of-append-rows (s ++ more) pieces front (q ∷ tail) ∙ rw (front_stays, tail_stays, part, bytes) refl

  pub edited_joined : IsEdited (s ++ more) pieces front (q ∷ tail) parent
  edited_joined = record {
    inside = AreInside-both (s ++ more) (length pieces) front (q ∷ tail) (inside_longer s more (length pieces) front utf8 parts_inside.0) (rw part piece, inside_longer s more (length pieces) tail utf8 parts_inside.1);
    attributes = HasPieces-append s more pieces utf8 before.attributes;
    few = before.few;
    own = own_joined s pieces 0 front mid tail r q p o raw was part loose before.own;
    told = rw all_after (IsTold-joined (bytes_of s p) raw m l loose apart t some v (is_utf8-from_IsUtf8 t t_utf8) short (rw all_before at before.told));
    made = rw all_after (IsMade-joined (bytes_of s p) raw m l loose apart t some v (rw all_before at before.made));
    parents = rw front_stays before.parents;
    above = rw front_stays before.above;
  }

  pub left_joined : events_of (s ++ more) pieces (q ∷ tail) ≡ text t raw ∷ l
  left_joined = rw (tail_stays, part, bytes) refl

module _ (s : List ℕ) (pieces : List AttributePieces) (rows : List EventRow) (done next : ℕ) (parent : Option ℕ) (h : IsEditing s pieces rows done next parent) (e : Edited) (view : edited_of s pieces rows done next ≡ e) (r : EventRow) (is : r ≡ get_or rows next r) (there : next < length rows)
    (p : TextRange) (raw : Bool) (was : r.part ≡ parts.Text raw p) (n : ℕ) (t : List ℕ) (given : IsJoined e.left n t) where
  abbrev rest : List EventRow
  rest = drop (next + 1) rows

  abbrev w : List Event
  w = events_of s pieces rest

  text_is : e.left ≡ text (bytes_of s p) raw ∷ w
  text_is = first_is s pieces rows done next parent h e view r is there ∙ ap (λ part. event_at s pieces part ∷ w) was

  joined : IsJoined (text (bytes_of s p) raw ∷ w) n t
  joined = subst (λ l. IsJoined l n t) text_is given

  pub row_within : next + n < length rows
  row_within = omega (arith, joined.0, length-map rest (λ x. event_at s pieces x.part), length-drop (next + 1) rows, there)

  mid_is : take n w ≡ events_of s pieces (take n rest)
  mid_is = take-map (λ x. event_at s pieces x.part) n rest

  tail_is : drop n w ≡ events_of s pieces (drop n rest)
  tail_is = drop-map (λ x. event_at s pieces x.part) n rest

  tail_rows : drop n rest ≡ drop (next + n + 1) rows
  tail_rows =
      let one : (next + 1) + n ≡ next + n + 1 = omega arith in
      drop-drop n (next + 1) rows ∙ ap (λ k. drop k rows) one

  cut : rest ≡ take n rest ++ drop n rest
  cut = sym (take-append-drop n rest)

  before : IsEdited s pieces (take done rows) (r ∷ (take n rest ++ drop n rest)) parent
  before = subst (λ x. IsEdited s pieces (take done rows) (r ∷ x) parent) cut (edited s pieces rows done next parent h r is there)

  pub joins : IsUtf8 t → (u : List ℕ) → s ++ t ≡ u → (q : EventRow) (o : TextRange) → q.part ≡ parts.Text raw o → o.from ≡ length s → o.to ≡ length s + length t
      → Edits u pieces (set rows (next + n) q) done (next + n) parent (pair_of e.done (with_joined n t e.left))
  joins utf8 u bytes_are q o part from to =
      let front = take done rows in
      let tail = drop n rest in
      let piece : IsPiece (s ++ t) o = IsPiece-new s t o utf8 from to in
      let bytes : bytes_of (s ++ t) o ≡ t = bytes_of-new s t o from to in
      let loose : are_loose (events_of s pieces (take n rest)) ≡ true = ap are_loose (sym mid_is) ∙ joined.1 in
      let apart : begins_text (events_of s pieces tail) ≡ false = ap begins_text (sym tail_is) ∙ joined.2 in
      let short : length t ≤ length (bytes_of s p) + walk_size (events_of s pieces (take n rest)) = subst (λ x. length t ≤ length (bytes_of s p) + walk_size x) mid_is joined.3 in
      let some : is_null t ≡ false = joined.4 in
      let front_same : take done (set rows (next + n) q) ≡ front = take-set-le done rows (next + n) q (omega (arith, h.ordered)) in
      let rest_new : drop (next + n) (set rows (next + n) q) ≡ q ∷ tail = drop-set rows (next + n) q row_within ∙ ap (λ x. q ∷ x) (sym tail_rows) in
      let made = edited_joined s pieces front (take n rest) tail r parent before p raw was loose apart t t q o part utf8 piece bytes utf8 some short in
      let d : events_of (s ++ t) pieces (take done (set rows (next + n) q)) ≡ e.done =
      ap (events_of (s ++ t) pieces) front_same ∙ front_stays s pieces front (take n rest) tail r parent before p raw was loose apart t t q o part utf8 piece bytes utf8 some short ∙ ap (λ x. x.done) view in
      let l : events_of (s ++ t) pieces (drop (next + n) (set rows (next + n) q)) ≡ with_joined n t e.left =
      ap (events_of (s ++ t) pieces) rest_new ∙ left_joined s pieces front (take n rest) tail r parent before p raw was loose apart t t q o part utf8 piece bytes utf8 some short
      ∙ rw (text_is, tail_is) refl in
      subst (λ x. Edits x pieces (set rows (next + n) q) done (next + n) parent (pair_of e.done (with_joined n t e.left))) bytes_are (
        record {
          ordered = omega (arith, h.ordered);
          within = omega (arith, row_within, length-set rows (next + n) q);
          count = omega (arith, h.count, length-set rows (next + n) q);
          edited = rw (front_same, rest_new) made;
        },
        ap₂ pair_of d l,
      )
