-- Rows that are done and rows that are left, after each step of an editor.
use Rattle.std.proofs.Common.{◌≡◌, ℕ, zero, suc, ◌+◌, ◌-◌, ◌<◌, ◌≤◌, Bool, false, List, [], ◌∷◌, ◌++◌, length, map, take, drop, get_or, slice_get, slice_range, Option, Some, None, IsUtf8, IsCharBoundary, inl, inr, sym, ap, subst, ◌∙◌, refl, arith}
use Rattle.std.proofs.lemmas.Bool.{cases_lt}
use Rattle.std.proofs.lemmas.List.{append_assoc, append-nil, drop-drop, drop-take, get_or-drop, get_or-take, length-drop, length-map, length-take, map-append, take-append-drop, take-take}
use Rattle.std.proofs.lemmas.Option.{slice_get-get_or}
use Rattle.std.proofs.lemmas.Str.{is_utf8-from_IsUtf8}
use Rattle.hm_base.specs.Bytes.{is_null}
use Rattle.hm_base.specs.Walks.{Event, doctype, text, comment, end}
use Rattle.hm_tree.specs.Edits.{IsEdited, parent_after}
use Rattle.hm_tree.specs.Pieces.{IsPiece, bytes_of}
use Rattle.hm_tree.specs.Rows.{IsInside, AreInside, IsAfter, own_end, HaveOwn, CanShow, IsTable, event_at, events_of}
use Rattle.hm_tree.specs.Trees.{innermost, open_after, open_after_event, parent_of}
use Rattle.hm_tree.specs.declared.pieces.AttributePieces.{AttributePieces}
use Rattle.hm_tree.specs.declared.pieces.TextRange.{TextRange}
use Rattle.hm_tree.specs.declared.rows.RowPart.{RowPart}
use Rattle.hm_tree.specs.declared.rows.RowPart.TheVariants as parts
use Rattle.hm_tree.specs.declared.rows.EventRow.{EventRow}
use Rattle.hm_tree.proofs.EditLemmas.{IsTold-front, IsMade-without, IsTold-without, IsMade-with, IsTold-with, are_sound-append}
use Rattle.hm_tree.proofs.ListLemmas.{slice_get-append}
use Rattle.hm_tree.proofs.MakingLemmas.{innermost-push}
use Rattle.hm_tree.proofs.OpenLemmas.{innermost-IsInnermost, innermost_within}
use Rattle.hm_tree.proofs.ShownLemmas.{HasPieces-append}
use Rattle.hm_tree.proofs.TableLemmas.{events_of-append, inside_stays, row_parent}
use Rattle.hm_tree.proofs.WalkLemmas.{are_sound-at, parents_from-push}

-- ---- Rows by their parts

abbrev parts_of : List EventRow → List RowPart
parts_of rows = map (λ r. r.part) rows

pub events_of-append-rows : (s : List ℕ) (pieces : List AttributePieces) (front rest : List EventRow) → events_of s pieces (front ++ rest) ≡ events_of s pieces front ++ events_of s pieces rest
events_of-append-rows s pieces front rest = map-append (λ r. event_at s pieces r.part) front rest

-- a row that has the part of another, in its place
module _ (q r : EventRow) (same : q.part ≡ r.part) where
  inside_same : (s : List ℕ) (n : ℕ) (front rest : List EventRow) → AreInside s n (front ++ r ∷ rest) → AreInside s n (front ++ q ∷ rest)
  inside_same s n [] rest h = (subst (IsInside s n) (sym same) h.0, h.1)
  inside_same s n (p ∷ front) rest h = (h.0, inside_same s n front rest h.1)

  own_same : (n : ℕ) (front rest : List EventRow) → HaveOwn n (front ++ r ∷ rest) → HaveOwn n (front ++ q ∷ rest)
  own_same n [] rest h = (subst (IsAfter n) (sym same) h.0, subst (λ k. HaveOwn k rest) (ap (own_end n) (sym same)) h.1)
  own_same n (p ∷ front) rest h = (h.0, own_same (own_end n p.part) front rest h.1)

  events_same : (s : List ℕ) (pieces : List AttributePieces) (front rest : List EventRow) → events_of s pieces (front ++ q ∷ rest) ≡ events_of s pieces (front ++ r ∷ rest)
  events_same s pieces [] rest = ap (λ part. event_at s pieces part ∷ events_of s pieces rest) same
  events_same s pieces (p ∷ front) rest = ap (λ w. event_at s pieces p.part ∷ w) (events_same s pieces front rest)

pub AreInside-front : (s : List ℕ) (n : ℕ) (front rest : List EventRow) → AreInside s n (front ++ rest) → AreInside s n front × AreInside s n rest
AreInside-front s n [] rest h = (tt, h)
AreInside-front s n (r ∷ front) rest h = let more = AreInside-front s n front rest h.1 in ((h.0, more.0), more.1)

HaveOwn-front : (n : ℕ) (front rest : List EventRow) → HaveOwn n (front ++ rest) → HaveOwn n front
HaveOwn-front n [] rest h = tt
HaveOwn-front n (r ∷ front) rest h = (h.0, HaveOwn-front (own_end n r.part) front rest h.1)

-- ---- The rows that are done

module _ (s : List ℕ) (pieces : List AttributePieces) (front rest : List EventRow) (parent : Option ℕ) (edited : IsEdited s pieces front rest parent) where
  pub front_table : IsTable s pieces front
  front_table = record {
    inside = (AreInside-front s (length pieces) front rest edited.inside).0;
    attributes = edited.attributes;
    few = edited.few;
    own = HaveOwn-front 0 front rest edited.own;
    parents = edited.parents;
    told = IsTold-front (events_of s pieces front) (events_of s pieces rest) (rw (events_of-append-rows s pieces front rest) at edited.told);
  }

  -- each row that is left can be shown
  pub rest_shows : (i : ℕ) (r : EventRow) → slice_get rest i ≡ Some r → CanShow s pieces r.part
  rest_shows i r at = record {
    inside = inside_at rest i (AreInside-front s (length pieces) front rest edited.inside).1 at;
    attributes = edited.attributes;
    few = edited.few;
    sound = are_sound-at (events_of s pieces rest) i (event_at s pieces r.part) (are_sound-append (events_of s pieces front) (events_of s pieces rest) (rw (events_of-append-rows s pieces front rest) at edited.told).sound).1 (event_there rest i at);
  }
    where
      inside_at : (rows : List EventRow) (i : ℕ) → AreInside s (length pieces) rows → slice_get rows i ≡ Some r → IsInside s (length pieces) r.part
      inside_at [] i h there = absurd (cc)
      inside_at (q ∷ rows) zero h there = let is : q ≡ r = cc in subst (λ x. IsInside s (length pieces) x.part) is h.0
      inside_at (q ∷ rows) (suc i) h there = inside_at rows i h.1 there

      event_there : (rows : List EventRow) (i : ℕ) → slice_get rows i ≡ Some r → slice_get (events_of s pieces rows) i ≡ Some (event_at s pieces r.part)
      event_there [] i there = absurd (cc)
      event_there (q ∷ rows) zero there = let is : q ≡ r = cc in ap (λ x. Some (event_at s pieces x.part)) is
      event_there (q ∷ rows) (suc i) there = event_there rows i there

pub event_in : (s : List ℕ) (pieces : List AttributePieces) (rows : List EventRow) (i : ℕ) (r : EventRow) → slice_get rows i ≡ Some r → slice_get (events_of s pieces rows) i ≡ Some (event_at s pieces r.part)
event_in s pieces [] i r there = absurd (cc)
event_in s pieces (q ∷ rows) zero r there = let is : q ≡ r = cc in ap (λ x. Some (event_at s pieces x.part)) is
event_in s pieces (q ∷ rows) (suc i) r there = event_in s pieces rows i r there

pub get_or-other : (rows : List EventRow) (i : ℕ) (d : EventRow) → i < length rows → get_or rows i d ≡ get_or rows i (get_or rows i d)
get_or-other rows i d within =
    let one = slice_get-get_or rows i d within in
    let other = slice_get-get_or rows i (get_or rows i d) within in
    let both : Some (get_or rows i d) ≡ Some (get_or rows i (get_or rows i d)) = sym one ∙ other in
    cc

in_front : (rows front : List EventRow) (k : ℕ) (d : EventRow) → k < length front → take (length front) rows ≡ front → slice_get rows k ≡ Some (get_or front k d)
in_front rows front k d within is =
    ap (λ xs. slice_get xs k) (sym (take-append-drop (length front) rows) ∙ ap (λ xs. xs ++ drop (length front) rows) is) ∙ slice_get-append front (drop (length front) rows) k within ∙ slice_get-get_or front k d within

-- ---- A row is done as it is

module _ (s : List ℕ) (pieces : List AttributePieces) (front rest : List EventRow) (r : EventRow) (parent : Option ℕ) (edited : IsEdited s pieces front (r ∷ rest) parent) where
  abbrev v : List Event
  v = events_of s pieces front

  parent_by : (rows : List EventRow) (part : RowPart) → take (length front) rows ≡ front → parent_after rows parent part (length front) ≡ innermost (v ++ event_at s pieces part ∷ [])
  parent_by rows (parts.Doctype legacy) is = edited.above ∙ sym (innermost-push v (doctype legacy))
  parent_by rows (parts.Start foreign len count from first) is = sym (innermost-push v (event_at s pieces (parts.Start foreign len count from first)) ∙ ap Some (length-map front (λ q. event_at s pieces q.part)))
  parent_by rows (parts.LongStart foreign count first) is = sym (innermost-push v (event_at s pieces (parts.LongStart foreign count first)) ∙ ap Some (length-map front (λ q. event_at s pieces q.part)))
  parent_by rows (parts.Text raw p) is = edited.above ∙ sym (innermost-push v (text (bytes_of s p) raw))
  parent_by rows (parts.Comment p) is = edited.above ∙ sym (innermost-push v (comment (bytes_of s p)))
  parent_by rows (parts.End foreign name) is = closes parent edited.above ∙ sym (innermost-push v (end (bytes_of s name) foreign))
    where
      none : (ks : List ℕ) (n : ℕ) → None ≡ slice_get ks 0 → None ≡ slice_get (open_after_event ks n (end (bytes_of s name) foreign)) 0
      none [] n h = refl
      none (k ∷ ks) n h = absurd (cc)

      closes : (o : Option ℕ) → o ≡ innermost v → parent_after rows o (parts.End foreign name) (length front) ≡ slice_get (open_after_event (open_after [] 0 v) (length v) (end (bytes_of s name) foreign)) 0
      closes None h = none (open_after [] 0 v) (length v) h
      closes (Some k) h =
          let around = innermost-IsInnermost v k h in
          let within : k < length front = omega (arith, innermost_within v k h, length-map front (λ q. event_at s pieces q.part)) in
          let q = get_or front k r in
          let there : slice_get rows k ≡ Some q = in_front rows front k r within is in
          let above : q.parent ≡ parent_of v k = row_parent s pieces front v refl k (innermost_within v k h) (front_table s pieces front (r ∷ rest) parent edited) q (get_or-other front k r within) in
          rw (there, around.open_starts) (above ∙ around.parent)

  pub edited_keep : (q : EventRow) (after : Option ℕ) (rows : List EventRow) → q.part ≡ r.part → q.parent ≡ parent → take (length front) rows ≡ front → after ≡ parent_after rows parent r.part (length front)
      → IsEdited s pieces (front ++ q ∷ []) rest after
  edited_keep q after rows part above is next =
      let whole : (front ++ q ∷ []) ++ rest ≡ front ++ q ∷ rest = append_assoc front (q ∷ []) rest in
      let done : events_of s pieces (front ++ q ∷ []) ≡ v ++ event_at s pieces r.part ∷ [] = events_of-append-rows s pieces front (q ∷ []) ∙ ap (λ x. v ++ event_at s pieces x ∷ []) part in
      record {
        inside = rw whole (inside_same q r part s (length pieces) front rest edited.inside);
        attributes = edited.attributes;
        few = edited.few;
        own = rw whole (own_same q r part 0 front rest edited.own);
        told = rw (whole, events_same q r part s pieces front rest) edited.told;
        made = rw (whole, events_same q r part s pieces front rest) edited.made;
        parents = rw (done, map-append (λ x. x.parent) front (q ∷ []), edited.parents, above, edited.above) (sym (parents_from-push [] 0 v (event_at s pieces r.part)));
        above = rw (done, next) (parent_by rows r.part is);
      }

-- ---- A text that is left goes, or has other bytes

own_text : (n : ℕ) (front rest : List EventRow) (r q : EventRow) (p o : TextRange) (raw : Bool) → r.part ≡ parts.Text raw p → q.part ≡ parts.Text raw o → HaveOwn n (front ++ r ∷ rest) → HaveOwn n (front ++ q ∷ rest)
own_text n [] rest r q p o raw is part h =
    (subst (IsAfter n) (sym part) tt, subst (λ k. HaveOwn k rest) (ap (own_end n) is ∙ sym (ap (own_end n) part)) h.1)
own_text n (x ∷ front) rest r q p o raw is part h = (h.0, own_text (own_end n x.part) front rest r q p o raw is part h.1)

own_without : (n : ℕ) (front rest : List EventRow) (r : EventRow) (p : TextRange) (raw : Bool) → r.part ≡ parts.Text raw p → HaveOwn n (front ++ r ∷ rest) → HaveOwn n (front ++ rest)
own_without n [] rest r p raw is h = subst (λ k. HaveOwn k rest) (ap (own_end n) is) h.1
own_without n (x ∷ front) rest r p raw is h = (h.0, own_without (own_end n x.part) front rest r p raw is h.1)

pub inside_without : (s : List ℕ) (n : ℕ) (front rest : List EventRow) (r : EventRow) → AreInside s n (front ++ r ∷ rest) → AreInside s n (front ++ rest)
inside_without s n [] rest r h = h.1
inside_without s n (x ∷ front) rest r h = (h.0, inside_without s n front rest r h.1)

pub inside_longer : (s more : List ℕ) (n : ℕ) (rows : List EventRow) → IsUtf8 more → AreInside s n rows → AreInside (s ++ more) n rows
inside_longer s more n [] utf8 h = tt
inside_longer s more n (x ∷ rows) utf8 h = (inside_stays s more n n x.part utf8 (omega arith) h.0, inside_longer s more n rows utf8 h.1)

inside_with : (s more : List ℕ) (n : ℕ) (front rest : List EventRow) (r q : EventRow) → IsUtf8 more → IsInside (s ++ more) n q.part → AreInside s n (front ++ r ∷ rest) → AreInside (s ++ more) n (front ++ q ∷ rest)
inside_with s more n [] rest r q utf8 new h = (new, inside_longer s more n rest utf8 h.1)
inside_with s more n (x ∷ front) rest r q utf8 new h = (inside_stays s more n n x.part utf8 (omega arith) h.0, inside_with s more n front rest r q utf8 new h.1)

module _ (s : List ℕ) (pieces : List AttributePieces) (front rest : List EventRow) (r : EventRow) (parent : Option ℕ) (edited : IsEdited s pieces front (r ∷ rest) parent) (p : TextRange) (raw : Bool) (is : r.part ≡ parts.Text raw p) where
  abbrev w : List Event
  w = events_of s pieces front

  abbrev l : List Event
  l = events_of s pieces rest

  all_events : events_of s pieces (front ++ r ∷ rest) ≡ w ++ text (bytes_of s p) raw ∷ l
  all_events = events_of-append-rows s pieces front (r ∷ rest) ∙ ap (λ part. w ++ event_at s pieces part ∷ l) is

  pub edited_without : IsEdited s pieces front rest parent
  edited_without =
      let all : events_of s pieces (front ++ rest) ≡ w ++ l = events_of-append-rows s pieces front rest in
      record {
        inside = inside_without s (length pieces) front rest r edited.inside;
        attributes = edited.attributes;
        few = edited.few;
        own = own_without 0 front rest r p raw is edited.own;
        told = rw all (IsTold-without (bytes_of s p) raw l w (rw all_events at edited.told));
        made = rw all (IsMade-without (bytes_of s p) raw l w (rw all_events at edited.made));
        parents = edited.parents;
        above = edited.above;
      }

  module _ (more t : List ℕ) (q : EventRow) (o : TextRange) (part : q.part ≡ parts.Text raw o) (utf8 : IsUtf8 more) (piece : IsPiece (s ++ more) o) (bytes : bytes_of (s ++ more) o ≡ t)
      (t_utf8 : IsUtf8 t) (some : is_null t ≡ false) (short : length t ≤ length (bytes_of s p)) where
    front_stays : events_of (s ++ more) pieces front ≡ w
    front_stays = rw append-nil at (events_of-append s more pieces [] front (AreInside-front s (length pieces) front (r ∷ rest) edited.inside).0 edited.attributes)

    rest_stays : events_of (s ++ more) pieces rest ≡ l
    rest_stays = rw append-nil at (events_of-append s more pieces [] rest (AreInside-front s (length pieces) front (r ∷ rest) edited.inside).1.1 edited.attributes)

    new_events : events_of (s ++ more) pieces (front ++ q ∷ rest) ≡ w ++ text t raw ∷ l
    new_events =
        events_of-append-rows (s ++ more) pieces front (q ∷ rest)
        ∙ rw (front_stays, rest_stays, part, bytes) refl

    pub edited_with : IsEdited (s ++ more) pieces front (q ∷ rest) parent
    edited_with = record {
      inside = inside_with s more (length pieces) front rest r q utf8 (rw part piece) edited.inside;
      attributes = HasPieces-append s more pieces utf8 edited.attributes;
      few = edited.few;
      own = own_text 0 front rest r q p o raw is part edited.own;
      told = rw new_events (IsTold-with (bytes_of s p) raw l t some w (is_utf8-from_IsUtf8 t t_utf8) short (rw all_events at edited.told));
      made = rw new_events (IsMade-with (bytes_of s p) raw l t some w (rw all_events at edited.made));
      parents = rw front_stays edited.parents;
      above = rw front_stays edited.above;
    }

    pub left_with : events_of (s ++ more) pieces (q ∷ rest) ≡ text t raw ∷ l
    left_with = rw (rest_stays, part, bytes) refl

    pub done_with : events_of (s ++ more) pieces front ≡ w
    done_with = front_stays

-- ---- A part of a piece

module _ (s : List ℕ) (p : TextRange) (h : IsPiece s p) where
  pub piece_length : length (bytes_of s p) ≡ p.to - p.from
  piece_length = omega (arith, length-take (p.to - p.from) (drop p.from s), length-drop p.from s, h.ordered, h.to_boundary.0)

  boundary_in : (i : ℕ) → IsCharBoundary (bytes_of s p) i → IsCharBoundary s (p.from + i)
  boundary_in i b = elim (cases_lt i (length (bytes_of s p))) [
    | inl within ↦
        let byte : get_or (bytes_of s p) i 0 ≡ get_or s (p.from + i) 0 = get_or-take (p.to - p.from) (drop p.from s) i 0 (omega (arith, piece_length, within)) ∙ get_or-drop p.from s i 0 in
        (omega (arith, piece_length, within, h.to_boundary.0, h.ordered), λ _. rw (← byte) (b.1 within))
    | inr past ↦
        let here : p.to ≡ p.from + i = omega (arith, piece_length, past, b.0, h.ordered) in
        subst (IsCharBoundary s) here h.to_boundary
  ]

  pub IsPiece-cut : (from to : ℕ) → from < to → IsCharBoundary (bytes_of s p) from → IsCharBoundary (bytes_of s p) to → IsPiece s (record { from = p.from + from; to = p.from + to })
  IsPiece-cut from to some a b = record {
    ordered = omega (arith, some);
    from_boundary = boundary_in from a;
    to_boundary = boundary_in to b;
  }

  pub bytes_of-cut : (from to : ℕ) → from < to → to ≤ length (bytes_of s p) → bytes_of s (record { from = p.from + from; to = p.from + to }) ≡ slice_range (bytes_of s p) from to
  bytes_of-cut from to some within =
      let front : p.to - p.from ≡ from + (p.to - p.from - from) = omega (arith, piece_length, within, some) in
      let whole : drop from (bytes_of s p) ≡ take (p.to - p.from - from) (drop (p.from + from) s) =
      ap (λ n. drop from (take n (drop p.from s))) front ∙ drop-take from (p.to - p.from - from) (drop p.from s) ∙ ap (take (p.to - p.from - from)) (drop-drop from p.from s) in
      let short : (p.from + to) - (p.from + from) ≡ to - from = omega (arith, some) in
      ap (λ n. take n (drop (p.from + from) s)) short ∙ sym (take-take (to - from) (p.to - p.from - from) (drop (p.from + from) s) (omega (arith, piece_length, within, some))) ∙ ap (take (to - from)) (sym whole)

  pub cut_length : (from to : ℕ) → to ≤ length (bytes_of s p) → length (slice_range (bytes_of s p) from to) ≤ length (bytes_of s p)
  cut_length from to within = omega (arith, length-take (to - from) (drop from (bytes_of s p)), within)

pub cut_some : (u : List ℕ) (from to : ℕ) → from < to → to ≤ length u → is_null (slice_range u from to) ≡ false
cut_some u from to some within = by_length (slice_range u from to) (omega (arith, some, within, length-take (to - from) (drop from u), length-drop from u))
  where
    by_length : (t : List ℕ) → 0 < length t → is_null t ≡ false
    by_length [] h = absurd (omega arith)
    by_length (c ∷ t) h = refl
