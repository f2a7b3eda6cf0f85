-- The steps of an editor that change an event, leave out a comment or join texts.
use Rattle.std.proofs.Common.{◌≡◌, ℕ, ◌+◌, ◌-◌, ◌<◌, ◌≤◌, Bool, true, false, ◌&&◌, List, [], ◌∷◌, ◌++◌, length, take, drop, set, get_or, slice_range, Option, None, All, sym, ap, ap₂, subst, ◌∙◌, refl, arith}
use Rattle.std.proofs.lemmas.Bool.{and_parts, and_from}
use Rattle.std.proofs.lemmas.List.{drop-set, drop_more, length-map, length-set, take-set-le}
use Rattle.std.specs.List.{remove}
use Rattle.std.specs.Str.{is_utf8}
use Rattle.hm_base.specs.Walks.{Attribute, Event, doctype, start, attributes_size, event_size, has_distinct_names}
use Rattle.hm_tree.specs.Attributes.{are_texts}
use Rattle.hm_tree.specs.Edits.{Edited, HasAttribute, IsEdited, IsEditing, begins_doctype, with_attributes, with_plain_doctype, without_value}
use Rattle.hm_tree.specs.Moved.{moved, with_part}
use Rattle.hm_tree.specs.Pieces.{HasPieces, attribute_in, attributes_in, bytes_of, emptied}
use Rattle.hm_tree.specs.Rows.{AreInside, CanShow, HaveOwn, IsAfter, IsInside, event_at, events_of, own_end}
use Rattle.hm_tree.specs.Starts.{flag_of, name_at}
use Rattle.hm_tree.specs.Trees.{is_sound}
use Rattle.hm_tree.specs.declared.pieces.AttributePieces.{AttributePieces}
use Rattle.hm_tree.specs.declared.rows.RowPart.{RowPart}
use Rattle.hm_tree.specs.declared.rows.RowPart.TheVariants as parts
use Rattle.hm_tree.specs.declared.rows.EventRow.{EventRow}
use Rattle.hm_tree.proofs.EditedLemmas.{events_of-append-rows, get_or-other}
use Rattle.hm_tree.proofs.EditorLemmas.{Edits, edited, edited_of, left_first, left_len, left_shows, pair_of}
use Rattle.hm_tree.proofs.FewerLemmas.{distinct_emptied, distinct_removed, emptied_count, emptied_inside, emptied_shown, fewer_shown, size_emptied, size_removed, texts_emptied, texts_removed}
use Rattle.hm_tree.proofs.LikeLemmas.{IsLike, IsMade-like, IsTold-like}
use Rattle.hm_tree.proofs.MovedLemmas.{All-moved, length-moved}
use Rattle.hm_tree.proofs.OwnLemmas.{all_above, all_below, own_count, own_inside, part_above, part_below, part_count, part_inside, part_own}
use Rattle.hm_tree.proofs.PartLemmas.{IsSameStart, IsStart, after_fewer, ends_fewer, itself}

-- ---- Rows around one that is another

inside_other : (s : List ℕ) (n : ℕ) (front rest : List EventRow) (r q : EventRow) → IsInside s n q.part → AreInside s n (front ++ r ∷ rest) → AreInside s n (front ++ q ∷ rest)
inside_other s n [] rest r q new h = (new, h.1)
inside_other s n (x ∷ front) rest r q new h = (h.0, inside_other s n front rest r q new h.1)

own_fewer : (m n : ℕ) (rows : List EventRow) → m ≤ n → HaveOwn n rows → HaveOwn m rows
own_fewer m n [] le h = tt
own_fewer m n (r ∷ rows) le h = (after_fewer m n r.part le h.0, own_fewer (own_end m r.part) (own_end n r.part) rows (ends_fewer m n r.part le) h.1)

-- a row that has attributes of its own where another one has, and ends no later
own_other : (n : ℕ) (front rest : List EventRow) (r q : EventRow) → ((k : ℕ) → IsAfter k r.part → IsAfter k q.part) → ((k : ℕ) → own_end k q.part ≤ own_end k r.part) → HaveOwn n (front ++ r ∷ rest) → HaveOwn n (front ++ q ∷ rest)
own_other n [] rest r q after ends h = (after n h.0, own_fewer (own_end n q.part) (own_end n r.part) rest (ends n) h.1)
own_other n (x ∷ front) rest r q after ends h = (h.0, own_other (own_end n x.part) front rest r q after ends h.1)

own_rest : (n : ℕ) (front rest : List EventRow) (r : EventRow) → HaveOwn n (front ++ r ∷ rest) → (k : ℕ) × IsAfter k r.part × HaveOwn (own_end k r.part) rest
own_rest n [] rest r h = (n, h.0, h.1)
own_rest n (x ∷ front) rest r h = own_rest (own_end n x.part) front rest r h.1

module _ (s : List ℕ) (old : List AttributePieces) (rows : List EventRow) (done next : ℕ) (parent : Option ℕ) (h : IsEditing s old rows done next parent) (e : Edited) (view : edited_of s old rows done next ≡ e) (r : EventRow) (is : r ≡ get_or rows next r) (there : next < length rows) where
  abbrev front : List EventRow
  front = take done rows

  abbrev rest : List EventRow
  rest = drop (next + 1) rows

  pub first_is : e.left ≡ event_at s old r.part ∷ events_of s old rest
  first_is = ap (λ x. x.left) (sym view) ∙ left_first s old rows done next parent h r is there

  done_is : e.done ≡ events_of s old front
  done_is = ap (λ x. x.done) (sym view)

  before : IsEdited s old front (r ∷ rest) parent
  before = edited s old rows done next parent h r is there

  all_before : events_of s old (front ++ r ∷ rest) ≡ events_of s old front ++ event_at s old r.part ∷ events_of s old rest
  all_before = events_of-append-rows s old front (r ∷ rest)

  -- other rows and attributes, of which only the event is another one
  module _ (new : List AttributePieces) (rows_new : List EventRow) (q : EventRow) (count : length rows_new ≡ length rows) (front_new : take done rows_new ≡ front) (rest_new : drop next rows_new ≡ q ∷ rest)
      (front_is : events_of s new front ≡ events_of s old front) (rest_is : events_of s new rest ≡ events_of s old rest) (as_many : length new ≡ length old) (inside : All (HasPieces s) new) (row_inside : IsInside s (length old) q.part)
      (own : HaveOwn 0 (front ++ q ∷ rest)) (event : Event) (event_is : event_at s new q.part ≡ event) (like : IsLike (event_at s old r.part) event) (sound : is_sound event ≡ true) (size : event_size event ≤ event_size (event_at s old r.part)) where
    all_after : events_of s new (front ++ q ∷ rest) ≡ events_of s old front ++ event ∷ events_of s old rest
    all_after = events_of-append-rows s new front (q ∷ rest) ∙ rw (front_is, rest_is, event_is) refl

    edited_changed : IsEdited s new front (q ∷ rest) parent
    edited_changed = record {
      inside = rw as_many (inside_other s (length old) front rest r q row_inside before.inside);
      attributes = inside;
      few = rw as_many before.few;
      own = own;
      told = rw all_after (IsTold-like (event_at s old r.part) event like (events_of s old rest) (events_of s old front) sound size (rw all_before at before.told));
      made = rw all_after (IsMade-like (event_at s old r.part) event like (events_of s old rest) (events_of s old front) (rw all_before at before.made));
      parents = rw front_is before.parents;
      above = rw front_is before.above;
    }

    changed : Edits s new rows_new done next parent (pair_of e.done (event ∷ events_of s old rest))
    changed =
        let d : events_of s new (take done rows_new) ≡ e.done = ap (events_of s new) front_new ∙ front_is ∙ sym done_is in
        let l : events_of s new (drop next rows_new) ≡ event ∷ events_of s old rest = ap (events_of s new) rest_new ∙ rw (event_is, rest_is) refl in (
          record {
            ordered = h.ordered;
            within = omega (arith, h.within, count);
            count = omega (arith, h.count, count);
            edited = rw (front_new, rest_new) edited_changed;
          },
          ap₂ pair_of d l,
        )

  set_count : (q : EventRow) → length (set rows next q) ≡ length rows
  set_count q = length-set rows next q

  set_front : (q : EventRow) → take done (set rows next q) ≡ front
  set_front q = take-set-le done rows next q h.ordered

  set_rest : (q : EventRow) → drop next (set rows next q) ≡ q ∷ rest
  set_rest q = drop-set rows next q there

  same_rest : drop next rows ≡ r ∷ rest
  same_rest = drop_more rows next r there ∙ ap (λ x. x ∷ rest) (sym is)

  -- the plain doctype
  pub plain : (q : EventRow) (legacy : Bool) → r.part ≡ parts.Doctype legacy → q.part ≡ parts.Doctype false → Edits s old (set rows next q) done next parent (pair_of e.done (with_plain_doctype e.left))
  plain q legacy was part =
      let new = changed old (set rows next q) q (set_count q) (set_front q) (set_rest q) refl refl refl before.attributes (rw part tt)
      (own_other 0 front rest r q (λ k a. rw part tt) (λ k. rw (part, was) (omega arith)) before.own) (doctype false) (rw part refl)
      (rw was (record { after = λ path. refl; ends = λ path w. refl; apart = λ w. refl; begins = λ w. refl })) refl (omega arith) in
      (new.0, new.1 ∙ rw (first_is, was) refl)

  -- a start with other attributes
  module _ (first count : ℕ) (was : IsStart r.part first count) where
    abbrev n : List ℕ
    n = bytes_of s (name_at old r.part)

    abbrev foreign : Bool
    foreign = flag_of r.part

    abbrev own : List AttributePieces
    own = slice_range old first (first + count)

    pub start_is : e.left ≡ start n foreign (attributes_in s own) ∷ events_of s old rest
    start_is = first_is ∙ ap (λ x. x ∷ events_of s old rest) (was.event s old)

    shows_next : CanShow s old r.part
    shows_next = left_shows s old rows done next parent h 0 next (omega arith) r there is

    pub range : first + count ≤ length old
    range = was.within s (length old) shows_next.inside

    sound : (is_utf8 n && are_texts (attributes_in s own) ≡ true) × (has_distinct_names (attributes_in s own) ≡ true)
    sound = and_parts (is_utf8 n && are_texts (attributes_in s own)) (has_distinct_names (attributes_in s own)) (ap is_sound (sym (was.event s old)) ∙ shows_next.sound)

    at_count : (at : ℕ) → HasAttribute e.left at → at < count
    at_count at has =
        let given : HasAttribute (start n foreign (attributes_in s own) ∷ events_of s old rest) at = subst (λ l. HasAttribute l at) start_is has in
        omega (arith, given, length-map own (attribute_in s), own_count old first count range)

    pub has_at : (at : ℕ) → HasAttribute e.left at → at < count
    has_at at has = at_count at has

    module _ (part_new : List AttributePieces) (as_many : length part_new ≡ count) (inside : All (HasPieces s) part_new) (rows_new : List EventRow) (q : EventRow) (fewer : ℕ) (le : fewer ≤ count) (like : IsSameStart r.part q.part first fewer)
        (rows_count : length rows_new ≡ length rows) (front_new : take done rows_new ≡ front) (rest_new : drop next rows_new ≡ q ∷ rest) (attributes : List Attribute) where
      abbrev new : List AttributePieces
      new = with_part first count old part_new

      pub start_changed : attributes_in s (slice_range new first (first + fewer)) ≡ attributes → are_texts attributes ≡ true → has_distinct_names attributes ≡ true → attributes_size attributes ≤ attributes_size (attributes_in s own)
          → Edits s new rows_new done next parent (pair_of e.done (start n foreign attributes ∷ events_of s old rest))
      start_changed shown texts distinct size =
          let below = part_below old part_new first count as_many range in
          let above = part_above old part_new first count as_many range in
          let others = own_rest 0 front rest r before.own in
          let ends : own_end others.0 r.part ≡ first + count = was.ends others.0 in
          let from_end : first + count ≤ own_end others.0 r.part = omega (arith, ends) in
          let name_same : name_at new r.part ≡ name_at old r.part = was.stays others.0 others.1 old new below in
          let event_is : event_at s new q.part ≡ start n foreign attributes = like.event s new ∙ ap₂ (λ p list. start (bytes_of s p) foreign list) name_same shown in
          let event_was : event_at s old r.part ≡ start n foreign (attributes_in s own) = was.event s old in
          let alike : IsLike (start n foreign (attributes_in s own)) (start n foreign attributes) = record { after = λ path. refl; ends = λ path w. refl; apart = λ w. refl; begins = λ w. refl } in
          let no_more : event_size (start n foreign attributes) ≤ event_size (start n foreign (attributes_in s own)) = omega (arith, size) in
          changed new rows_new q rows_count front_new rest_new
          (all_below s old new first count below above 0 front rest r was before.own)
          (all_above s old new first count below above (own_end others.0 r.part) rest from_end others.2)
          (part_count old part_new first count as_many range) (part_inside old part_new first count as_many range s before.attributes inside)
          (like.inside s (length old) shows_next.inside)
          (own_other 0 front rest r q like.after (λ k. omega (arith, le, like.ends k, was.ends k)) before.own)
          (start n foreign attributes) event_is
          (subst (λ x. IsLike x (start n foreign attributes)) (sym event_was) alike)
          (and_from (is_utf8 n && are_texts attributes) (has_distinct_names attributes) (and_from (is_utf8 n) (are_texts attributes) (and_parts (is_utf8 n) (are_texts (attributes_in s own)) sound.0).0 texts) distinct)
          (subst (λ x. event_size (start n foreign attributes) ≤ event_size x) (sym event_was) no_more)

    -- one attribute is left out
    pub leaves_attribute : (at : ℕ) → HasAttribute e.left at → (new : List AttributePieces) → new ≡ with_part first count old (moved at own) → (q : EventRow) (fewer : ℕ) → fewer + 1 ≡ count → IsSameStart r.part q.part first fewer
        → Edits s new (set rows next q) done next parent (pair_of e.done (with_attributes (λ attributes. remove attributes at) e.left))
    leaves_attribute at has new new_is q fewer one like =
        let within = at_count at has in
        let many : length (moved at own) ≡ count = length-moved at own ∙ own_count old first count range in
        let less : fewer ≡ count - 1 = omega (arith, one) in
        let d = get_or own 0 (record { from = 0; middle = 0; to = 0 }) in
        let texts = (and_parts (is_utf8 n) (are_texts (attributes_in s own)) sound.0).1 in
        let made = start_changed (moved at own) many (All-moved (HasPieces s) at own (own_inside s old first count before.attributes)) (set rows next q) q fewer (omega (arith, one)) like (set_count q) (set_front q) (set_rest q) (remove (attributes_in s own) at)
        (rw less (fewer_shown s own (with_part first count old (moved at own)) first count at d within (own_count old first count range) (part_own old (moved at own) first count many range)))
        (texts_removed (attributes_in s own) at texts) (distinct_removed (attributes_in s own) at sound.1) (size_removed (attributes_in s own) at) in
        rw new_is (made.0, made.1 ∙ rw start_is refl)

    -- one attribute has no value
    pub leaves_value : (at : ℕ) → HasAttribute e.left at → (new : List AttributePieces) → new ≡ with_part first count old (emptied at own)
        → Edits s new rows done next parent (pair_of e.done (with_attributes (without_value at) e.left))
    leaves_value at has new new_is =
        let many : length (emptied at own) ≡ count = emptied_count at own ∙ own_count old first count range in
        let texts = (and_parts (is_utf8 n) (are_texts (attributes_in s own)) sound.0).1 in
        let made = start_changed (emptied at own) many (emptied_inside s at own (own_inside s old first count before.attributes)) rows r count (omega arith) (itself r.part first count was) refl refl same_rest (without_value at (attributes_in s own))
        (ap (attributes_in s) (part_own old (emptied at own) first count many range) ∙ emptied_shown s at own)
        (texts_emptied at (attributes_in s own) texts) (distinct_emptied at (attributes_in s own) ∙ sound.1) (size_emptied at (attributes_in s own)) in
        rw new_is (made.0, made.1 ∙ rw start_is refl)

-- ---- The rows that an editor finds

some_doctype : (l : List Event) → begins_doctype l ≡ true → 0 < length l
some_doctype [] b = absurd (cc)
some_doctype (x ∷ l) b = omega arith

doctype_by : (s : List ℕ) (pieces : List AttributePieces) (part : RowPart) (l : List Event) → begins_doctype (event_at s pieces part ∷ l) ≡ true → (legacy : Bool) × (part ≡ parts.Doctype legacy)
doctype_by s pieces (parts.Doctype legacy) l b = (legacy, refl)
doctype_by s pieces (parts.Start foreign len count from first) l b = absurd (cc)
doctype_by s pieces (parts.LongStart foreign count first) l b = absurd (cc)
doctype_by s pieces (parts.Text raw p) l b = absurd (cc)
doctype_by s pieces (parts.Comment p) l b = absurd (cc)
doctype_by s pieces (parts.End foreign name) l b = absurd (cc)

some_attribute : (l : List Event) (at : ℕ) → HasAttribute l at → 0 < length l
some_attribute [] at has = absurd has
some_attribute (x ∷ l) at has = omega arith

module _ (s : List ℕ) (old : List AttributePieces) (rows : List EventRow) (done next : ℕ) (parent : Option ℕ) (h : IsEditing s old rows done next parent) (e : Edited) (view : edited_of s old rows done next ≡ e) where
  pub makes_plain : begins_doctype e.left ≡ true → (q : EventRow) → q.part ≡ parts.Doctype false → Edits s old (set rows next q) done next parent (pair_of e.done (with_plain_doctype e.left))
  makes_plain begins q part =
      let there : next < length rows = omega (arith, left_len s old rows done next parent h e view, some_doctype e.left begins) in
      let d : EventRow = record { part = parts.Doctype false; parent = None } in
      let r = get_or rows next d in
      let is : r ≡ get_or rows next r = get_or-other rows next d there in
      let found = doctype_by s old r.part (events_of s old (drop (next + 1) rows)) (rw (first_is s old rows done next parent h e view r is there) at begins) in
      plain s old rows done next parent h e view r is there q found.0 found.1 part

  pub row_there : (at : ℕ) → HasAttribute e.left at → next < length rows
  row_there at has = omega (arith, left_len s old rows done next parent h e view, some_attribute e.left at has)
