-- Tables of rows with one more row, or with more bytes in the text that stands last.
use Rattle.std.proofs.Common.{◌≡◌, ℕ, zero, suc, ◌+◌, ◌-◌, ◌^◌, ◌<◌, ◌≤◌, ◌&&◌, Bool, true, List, [], ◌∷◌, ◌++◌, length, drop, map, get_or, slice_get, slice_range, All, IsUtf8, Some, option_map, sym, ap, ap₂, subst, ◌∙◌, refl, arith, length-append, length-take, length-drop}
use Rattle.std.proofs.lemmas.Bool.{and_parts}
use Rattle.std.proofs.lemmas.List.{get_or_append_left, map-append, length-map, append-nil}
use Rattle.std.proofs.lemmas.List.Elements.{All-append}
use Rattle.std.proofs.lemmas.Option.{slice_get-map, slice_get_read}
use Rattle.std.proofs.lemmas.Str.{IsUtf8-append, IsUtf8-from_is_utf8, is_utf8-from_IsUtf8}
use Rattle.std.specs.Str.{is_utf8}
use Rattle.hm_base.specs.Walks.{Event, start, text, has_distinct_names, event_size, walk_size}
use Rattle.hm_tree.specs.Trees.{IsTold, is_sound, are_sound, innermost, parent_of}
use Rattle.hm_tree.specs.Attributes.{are_texts}
use Rattle.hm_tree.specs.Pieces.{HasPieces, IsPiece, ArePiecesShown, attributes_in, bytes_of, name_of}
use Rattle.hm_tree.specs.Rows.{IsInside, AreInside, IsAfter, own_end, HaveOwn, ReachesEnd, LastReachesEnd, CanShow, IsTable, IsRowTable, event_at, events_of, parents_from}
use Rattle.hm_tree.specs.Starts.{name_at, name_before, name_from, no_piece}
use Rattle.hm_tree.specs.declared.pieces.AttributePieces.{AttributePieces}
use Rattle.hm_tree.specs.declared.pieces.TextRange.{TextRange}
use Rattle.hm_tree.specs.declared.rows.RowPart.{RowPart}
use Rattle.hm_tree.specs.declared.rows.RowPart.TheVariants as parts
use Rattle.hm_tree.specs.declared.rows.EventRow.{EventRow}
use Rattle.hm_tree.proofs.PartLemmas.{IsStart, after_fewer, ends_within}
use Rattle.hm_tree.proofs.PieceLemmas.{IsPiece-append, IsPiece-longer, bytes_of-append, bytes_of-longer}
use Rattle.hm_tree.proofs.ShownLemmas.{All-slice_range, HasPieces-append, attributes_in-append, slice_range-append}
use Rattle.hm_tree.proofs.WalkLemmas.{are_sound-push, are_sound-parts, are_sound-at, parents_from-push, parents_from-at, walk_size-push}

pub inside_stays : (s more : List ℕ) (n m : ℕ) (part : RowPart) → IsUtf8 more → n ≤ m → IsInside s n part → IsInside (s ++ more) m part
inside_stays s more n m (parts.Doctype legacy) utf8 le h = tt
inside_stays s more n m (parts.Start foreign len count from first) utf8 le h = (IsPiece-append s more (name_from from len) utf8 h.0, omega (arith, h.1))
inside_stays s more n m (parts.LongStart foreign count first) utf8 le h = (h.0, omega (arith, h.1))
inside_stays s more n m (parts.Text raw p) utf8 le h = IsPiece-append s more p utf8 h
inside_stays s more n m (parts.Comment p) utf8 le h = IsPiece-append s more p utf8 h
inside_stays s more n m (parts.End foreign name) utf8 le h = IsPiece-append s more name utf8 h

attributes_stay : (s more : List ℕ) (pieces extra : List AttributePieces) (first count : ℕ) → first + count ≤ length pieces → All (HasPieces s) pieces
    → attributes_in (s ++ more) (slice_range (pieces ++ extra) first (first + count)) ≡ attributes_in s (slice_range pieces first (first + count))
attributes_stay s more pieces extra first count range all =
    ap (attributes_in (s ++ more)) (slice_range-append pieces extra first (first + count) (omega arith) range)
    ∙ attributes_in-append s more (slice_range pieces first (first + count)) (All-slice_range (HasPieces s) pieces first (first + count) all)

event_stays : (s more : List ℕ) (pieces extra : List AttributePieces) (part : RowPart) → IsInside s (length pieces) part → All (HasPieces s) pieces → event_at (s ++ more) (pieces ++ extra) part ≡ event_at s pieces part
event_stays s more pieces extra (parts.Doctype legacy) h all = refl
event_stays s more pieces extra (parts.Start foreign len count from first) h all =
    ap₂ (λ n attributes. start n foreign attributes) (bytes_of-append s more (name_from from len) h.0) (attributes_stay s more pieces extra first count h.1 all)
event_stays s more pieces extra (parts.LongStart foreign count first) h all =
    let within : first - 1 < length pieces = omega (arith, h.0, h.1) in
    let named : bytes_of (s ++ more) (name_before (pieces ++ extra) first) ≡ bytes_of s (name_before pieces first) =
    ap (λ a. bytes_of (s ++ more) (name_of a)) (get_or_append_left pieces extra no_piece (first - 1) within) ∙ bytes_of-append s more (name_before pieces first) (all (first - 1) no_piece within).0 in
    ap₂ (λ n attributes. start n foreign attributes) named (attributes_stay s more pieces extra first count h.1 all)
event_stays s more pieces extra (parts.Text raw p) h all = rw (bytes_of-append s more p h) refl
event_stays s more pieces extra (parts.Comment p) h all = rw (bytes_of-append s more p h) refl
event_stays s more pieces extra (parts.End foreign name) h all = rw (bytes_of-append s more name h) refl

-- the events of a table stay, where bytes and attributes are appended to those that it has
pub events_of-append : (s more : List ℕ) (pieces extra : List AttributePieces) (rows : List EventRow) → AreInside s (length pieces) rows → All (HasPieces s) pieces → events_of (s ++ more) (pieces ++ extra) rows ≡ events_of s pieces rows
events_of-append s more pieces extra [] h all = refl
events_of-append s more pieces extra (r ∷ rows) h all = rw (event_stays s more pieces extra r.part h.0 all, events_of-append s more pieces extra rows h.1 all) refl

AreInside-push : (s more : List ℕ) (n m : ℕ) (rows : List EventRow) (r : EventRow) → IsUtf8 more → n ≤ m → AreInside s n rows → IsInside (s ++ more) m r.part → AreInside (s ++ more) m (rows ++ r ∷ [])
AreInside-push s more n m [] r utf8 le h new = (new, tt)
AreInside-push s more n m (q ∷ rows) r utf8 le h new = (inside_stays s more n m q.part utf8 le h.0, AreInside-push s more n m rows r utf8 le h.1 new)

AreInside-parts : (s : List ℕ) (n : ℕ) (rows : List EventRow) (r : EventRow) → AreInside s n (rows ++ r ∷ []) → AreInside s n rows × IsInside s n r.part
AreInside-parts s n [] r h = (tt, h.0)
AreInside-parts s n (q ∷ rows) r h = ((h.0, (AreInside-parts s n rows r h.1).0), (AreInside-parts s n rows r h.1).1)

-- each row that is there is inside
pub IsInside-at : (s : List ℕ) (n : ℕ) (rows : List EventRow) (i : ℕ) (d : EventRow) → AreInside s n rows → i < length rows → IsInside s n (get_or rows i d).part
IsInside-at s n [] i d h within = absurd (omega arith)
IsInside-at s n (r ∷ rows) zero d h within = h.0
IsInside-at s n (r ∷ rows) (suc i) d h within = IsInside-at s n rows i d h.1 (omega arith)

-- one more row, whose attributes stand after those of all rows
HaveOwn-push : (s : List ℕ) (n m : ℕ) (rows : List EventRow) (r : EventRow) → n ≤ m → AreInside s m rows → HaveOwn n rows → IsAfter m r.part → HaveOwn n (rows ++ r ∷ [])
HaveOwn-push s n m [] r le inside own new = (after_fewer n m r.part le new, tt)
HaveOwn-push s n m (q ∷ rows) r le inside own new = (own.0, HaveOwn-push s (own_end n q.part) m rows r (ends_within s n m q.part le inside.0) inside.1 own.1 new)

-- another row in place of the last one, where both have no attributes
HaveOwn-parts : (n : ℕ) (rows : List EventRow) (r q : EventRow) → ((k : ℕ) → IsAfter k q.part) → HaveOwn n (rows ++ r ∷ []) → HaveOwn n (rows ++ q ∷ [])
HaveOwn-parts n [] r q none own = (none n, tt)
HaveOwn-parts n (p ∷ rows) r q none own = (own.0, HaveOwn-parts (own_end n p.part) rows r q none own.1)

LastReachesEnd-push : (s : List ℕ) (rows : List EventRow) (r : EventRow) → ReachesEnd s r.part → LastReachesEnd s (rows ++ r ∷ [])
LastReachesEnd-push s [] r h = h
LastReachesEnd-push s (q ∷ []) r h = h
LastReachesEnd-push s (q ∷ p ∷ rows) r h = LastReachesEnd-push s (p ∷ rows) r h

ReachesEnd-last : (s : List ℕ) (rows : List EventRow) (r : EventRow) → LastReachesEnd s (rows ++ r ∷ []) → ReachesEnd s r.part
ReachesEnd-last s [] r h = h
ReachesEnd-last s (q ∷ []) r h = h
ReachesEnd-last s (q ∷ p ∷ rows) r h = ReachesEnd-last s (p ∷ rows) r h

-- Row r for event e can be appended to the rows for events w. The bytes are then t, the last of which are `more`, and
-- the attributes are `kept`, the last of which are `extra`.
pub record IsNewRow (more t : List ℕ) (extra kept : List AttributePieces) (w : List Event) (r : EventRow) (e : Event) : Type 0 where
  pub utf8 : IsUtf8 more
  pub event : event_at t kept r.part ≡ e
  pub inside : IsInside t (length kept) r.part
  pub attributes : All (HasPieces t) extra
  pub own : (n : ℕ) → n + length extra ≡ length kept → IsAfter n r.part
  pub reaches : ReachesEnd t r.part
  pub parent : r.parent ≡ innermost w
  pub sound : is_sound e ≡ true
  pub room : length w + 1 < 2 ^ 29
  pub bytes : walk_size w + event_size e < 2 ^ 29
  pub size : length more ≤ event_size e
  pub count : length extra ≤ event_size e + 2

-- the bytes, attributes and rows are a table for these events
abbrev pub IsTableOf : List ℕ → List AttributePieces → List EventRow → List Event → Type 0
IsTableOf s pieces rows w = IsRowTable s pieces rows × (events_of s pieces rows ≡ w)

module _ (s more : List ℕ) (pieces extra : List AttributePieces) (rows : List EventRow) (r : EventRow) (e : Event) (table : IsRowTable s pieces rows)
    (new : IsNewRow more (s ++ more) extra (pieces ++ extra) (events_of s pieces rows) r e) where
  events_more : events_of (s ++ more) (pieces ++ extra) (rows ++ r ∷ []) ≡ events_of s pieces rows ++ e ∷ []
  events_more =
      map-append (λ q. event_at (s ++ more) (pieces ++ extra) q.part) rows (r ∷ [])
      ∙ rw (events_of-append s more pieces extra rows table.inside table.attributes, new.event) refl

  table_more : IsRowTable (s ++ more) (pieces ++ extra) (rows ++ r ∷ [])
  table_more =
      let w = events_of s pieces rows in
      record {
        inside = AreInside-push s more (length pieces) (length (pieces ++ extra)) rows r new.utf8 (omega (arith, length-append pieces extra)) table.inside new.inside;
        attributes = All-append (HasPieces (s ++ more)) pieces extra (HasPieces-append s more pieces new.utf8 table.attributes) new.attributes;
        own = HaveOwn-push s 0 (length pieces) rows r (omega arith) table.inside table.own (new.own (length pieces) (sym (length-append pieces extra)));
        parents = rw (events_more, map-append (λ q. q.parent) rows (r ∷ []), table.parents, new.parent) (sym (parents_from-push [] 0 w e));
        last = LastReachesEnd-push (s ++ more) rows r new.reaches;
        told = subst IsTold (sym events_more) (record {
          sound = are_sound-push w e table.told.sound new.sound;
          events = omega (arith, new.room, length-append w (e ∷ []));
          bytes = omega (arith, new.bytes, walk_size-push w e);
        });
        size = rw events_more (omega (arith, new.size, table.size, length-append s more, walk_size-push w e));
        count = rw events_more (omega (arith, new.count, table.count, length-append pieces extra, length-append rows (r ∷ []), walk_size-push w e));
      }

-- there are fewer than 2 ^ 32 attributes
pub row_count : {s : List ℕ} {pieces : List AttributePieces} {rows : List EventRow} → IsRowTable s pieces rows → length pieces < 2 ^ 31
row_count {s} {pieces} {rows} table = omega (arith, table.count, table.told.bytes, table.told.events, length-map rows (λ q. event_at s pieces q.part))

-- one more row
pub IsTableOf-push : (s more t : List ℕ) (pieces extra kept : List AttributePieces) (rows : List EventRow) (w : List Event) (r : EventRow) (e : Event)
    → s ++ more ≡ t → pieces ++ extra ≡ kept → events_of s pieces rows ≡ w → IsRowTable s pieces rows
    → IsNewRow more t extra kept w r e → IsTableOf t kept (rows ++ r ∷ []) (w ++ e ∷ [])
IsTableOf-push s more t pieces extra kept rows w r e bytes list view table =
    subst (λ v. IsNewRow more t extra kept v r e → IsTableOf t kept (rows ++ r ∷ []) (v ++ e ∷ [])) view
    (subst (λ m. IsNewRow more t extra m (events_of s pieces rows) r e → IsTableOf t m (rows ++ r ∷ []) (events_of s pieces rows ++ e ∷ [])) list
    (subst (λ u. IsNewRow more u extra (pieces ++ extra) (events_of s pieces rows) r e → IsTableOf u (pieces ++ extra) (rows ++ r ∷ []) (events_of s pieces rows ++ e ∷ [])) bytes
    (λ new. (table_more s more pieces extra rows r e table new, events_more s more pieces extra rows r e table new))))

-- the row of a text that stands last, with more bytes
abbrev pub longer : EventRow → TextRange → Bool → EventRow
longer r p raw = record r { part = parts.Text raw p }

module _ (s more : List ℕ) (pieces : List AttributePieces) (rows : List EventRow) (r : EventRow) (p q : TextRange) (raw : Bool)
    (table : IsRowTable s pieces (rows ++ r ∷ [])) (is : r.part ≡ parts.Text raw p) (utf8 : IsUtf8 more)
    (bytes : walk_size (events_of s pieces (rows ++ r ∷ [])) + length more < 2 ^ 29) (from : q.from ≡ p.from) (to : q.to ≡ length (s ++ more)) where
  piece : IsPiece s p
  piece = let h : IsInside s (length pieces) (parts.Text raw p) = subst (IsInside s (length pieces)) is (AreInside-parts s (length pieces) rows r table.inside).1 in h

  ends : p.to ≡ length s
  ends = let h : ReachesEnd s (parts.Text raw p) = subst (ReachesEnd s) is (ReachesEnd-last s rows r table.last) in h

  before : events_of s pieces (rows ++ r ∷ []) ≡ events_of s pieces rows ++ text (bytes_of s p) raw ∷ []
  before = map-append (λ t. event_at s pieces t.part) rows (r ∷ []) ∙ rw is refl

  pub events_of-longer : events_of (s ++ more) pieces (rows ++ longer r q raw ∷ []) ≡ events_of s pieces rows ++ text (bytes_of s p ++ more) raw ∷ []
  events_of-longer =
      let inside = (AreInside-parts s (length pieces) rows r table.inside).0 in
      let same : events_of (s ++ more) pieces rows ≡ events_of s pieces rows = rw append-nil at (events_of-append s more pieces [] rows inside table.attributes) in
      map-append (λ t. event_at (s ++ more) pieces t.part) rows (longer r q raw ∷ []) ∙ rw (same, bytes_of-longer s more p q piece ends from to) refl

  parents_same : map (λ t. t.parent) (rows ++ longer r q raw ∷ []) ≡ parents_from [] 0 (events_of s pieces rows ++ text (bytes_of s p ++ more) raw ∷ [])
  parents_same =
      let w = events_of s pieces rows in
      let same : map (λ t. t.parent) (rows ++ longer r q raw ∷ []) ≡ map (λ t. t.parent) (rows ++ r ∷ []) =
      map-append (λ t. t.parent) rows (longer r q raw ∷ []) ∙ sym (map-append (λ t. t.parent) rows (r ∷ [])) in
      same ∙ table.parents ∙ ap (parents_from [] 0) before ∙ parents_from-push [] 0 w (text (bytes_of s p) raw) ∙ sym (parents_from-push [] 0 w (text (bytes_of s p ++ more) raw))

  told_still : IsTold (events_of s pieces rows ++ text (bytes_of s p ++ more) raw ∷ [])
  told_still =
      let w = events_of s pieces rows in
      let was = subst IsTold before table.told in
      let sound = are_sound-parts w (text (bytes_of s p) raw) was.sound in
      let texts : IsUtf8 (bytes_of s p ++ more) = IsUtf8-append (bytes_of s p) more (IsUtf8-from_is_utf8 (bytes_of s p) sound.1) utf8 in
      record {
        sound = are_sound-push w (text (bytes_of s p ++ more) raw) sound.0 (is_utf8-from_IsUtf8 (bytes_of s p ++ more) texts);
        events = omega (arith, was.events, length-append w (text (bytes_of s p) raw ∷ []), length-append w (text (bytes_of s p ++ more) raw ∷ []));
        bytes = omega (arith, rw before at bytes, walk_size-push w (text (bytes_of s p) raw), walk_size-push w (text (bytes_of s p ++ more) raw), length-append (bytes_of s p) more);
      }

  pub IsTable-longer : IsRowTable (s ++ more) pieces (rows ++ longer r q raw ∷ [])
  IsTable-longer =
      let w = events_of s pieces rows in
      let size = rw before at table.size in
      record {
        inside = AreInside-push s more (length pieces) (length pieces) rows (longer r q raw) utf8 (omega arith) (AreInside-parts s (length pieces) rows r table.inside).0 (IsPiece-longer s more p q utf8 piece from to);
        attributes = HasPieces-append s more pieces utf8 table.attributes;
        own = HaveOwn-parts 0 rows r (longer r q raw) (λ k. tt) table.own;
        parents = rw events_of-longer parents_same;
        last = LastReachesEnd-push (s ++ more) rows (longer r q raw) to;
        told = subst IsTold (sym events_of-longer) told_still;
        size = rw events_of-longer (omega (arith, size, walk_size-push w (text (bytes_of s p) raw), walk_size-push w (text (bytes_of s p ++ more) raw), length-append (bytes_of s p) more, length-append s more));
        count = rw events_of-longer (omega (arith, rw before at table.count, walk_size-push w (text (bytes_of s p) raw), walk_size-push w (text (bytes_of s p ++ more) raw), length-append (bytes_of s p) more, length-append rows (r ∷ []), length-append rows (longer r q raw ∷ [])));
      }

-- such a table is a table
pub of_rows : {s : List ℕ} {pieces : List AttributePieces} {rows : List EventRow} → IsRowTable s pieces rows → IsTable s pieces rows
of_rows table = record {
  inside = table.inside;
  attributes = table.attributes;
  few = omega (arith, row_count table);
  own = table.own;
  parents = table.parents;
  told = table.told;
}

-- a start that can be shown shows its attributes
pub shown_attributes : (s : List ℕ) (pieces : List AttributePieces) (part : RowPart) (first count : ℕ) → IsStart part first count → CanShow s pieces part → ArePiecesShown s (slice_range pieces first (first + count))
shown_attributes s pieces part first count is h =
    let own = slice_range pieces first (first + count) in
    let n = bytes_of s (name_at pieces part) in
    let both = and_parts (is_utf8 n && are_texts (attributes_in s own)) (has_distinct_names (attributes_in s own)) (ap is_sound (sym (is.event s pieces)) ∙ h.sound) in
    record {
      inside = All-slice_range (HasPieces s) pieces first (first + count) h.attributes;
      texts = (and_parts (is_utf8 n) (are_texts (attributes_in s own)) both.0).1;
      distinct = both.1;
      count = omega (arith, length-take (first + count - first) (drop first pieces), length-drop first pieces, is.within s (length pieces) h.inside, h.few);
    }

-- row i of a table whose events are w
module _ (s : List ℕ) (pieces : List AttributePieces) (rows : List EventRow) (w : List Event) (view : events_of s pieces rows ≡ w) (i : ℕ) (within : i < length w) where
  pub row_within : i < length rows
  row_within = omega (arith, ap length view, length-map rows (λ q. event_at s pieces q.part))

  module _ (table : IsTable s pieces rows) (r : EventRow) (is : r ≡ get_or rows i r) where
    at : slice_get rows i ≡ Some r
    at = slice_get_read rows (length rows) i r refl row_within is

    -- its part is inside
    pub part_inside : (part : RowPart) → r.part ≡ part → IsInside s (length pieces) part
    part_inside part e = subst (IsInside s (length pieces)) (sym (ap (λ q. q.part) is) ∙ e) (IsInside-at s (length pieces) rows i r table.inside row_within)

    -- it stands for event i
    pub part_event : (part : RowPart) → r.part ≡ part → slice_get w i ≡ Some (event_at s pieces part)
    part_event part e =
        rw (← view) (slice_get-map (λ q. event_at s pieces q.part) rows i ∙ ap (option_map (λ q. event_at s pieces q.part)) at ∙ ap (λ q. Some (event_at s pieces q)) e)

    -- which can be shown
    pub part_shows : CanShow s pieces r.part
    part_shows = record {
      inside = part_inside r.part refl;
      attributes = table.attributes;
      few = table.few;
      sound = are_sound-at w i (event_at s pieces r.part) (subst (λ v. are_sound v ≡ true) view table.told.sound) (part_event r.part refl);
    }

    -- and has the parent of event i
    pub row_parent : r.parent ≡ parent_of w i
    row_parent =
        let v = events_of s pieces rows in
        let here : slice_get (map (λ q. q.parent) rows) i ≡ Some r.parent = slice_get-map (λ q. q.parent) rows i ∙ ap (option_map (λ q. q.parent)) at in
        let there : slice_get (parents_from [] 0 v) i ≡ Some (parent_of v i) = parents_from-at [] 0 v i (omega (arith, ap length view)) in
        let same : slice_get (map (λ q. q.parent) rows) i ≡ slice_get (parents_from [] 0 v) i = ap (λ ps. slice_get ps i) table.parents in
        let equal : Some r.parent ≡ Some (parent_of v i) = sym here ∙ same ∙ there in
        rw (← view) (let parent : r.parent ≡ parent_of v i = cc in parent)
