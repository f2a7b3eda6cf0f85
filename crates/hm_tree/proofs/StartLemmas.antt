-- The row of a start, with its name and its attributes appended to a table.
use Rattle.std.proofs.Common.{◌≡◌, ℕ, ◌+◌, ◌-◌, ◌^◌, ◌<◌, ◌≤◌, ◌&&◌, Bool, true, List, [], ◌∷◌, ◌++◌, length, drop, get_or, slice_range, IsUtf8, Option, sym, ap, ap₂, ◌∙◌, refl, arith, append_assoc, length-append}
use Rattle.std.proofs.lemmas.Bool.{and_from}
use Rattle.std.proofs.lemmas.List.{drop_at, get_or-append-add, take_all, length-map}
use Rattle.std.proofs.lemmas.List.Elements.{All-cons}
use Rattle.std.proofs.lemmas.Str.{IsUtf8-append, is_utf8-from_IsUtf8}
use Rattle.std.specs.Str.{is_utf8}
use Rattle.hm_base.specs.Walks.{Attribute, Event, start, event_size, has_distinct_names, walk_size}
use Rattle.hm_tree.specs.Attributes.{are_texts}
use Rattle.hm_tree.specs.Trees.{innermost}
use Rattle.hm_tree.specs.Pieces.{HasPieces, IsAppended, IsPiece, attribute_in, attributes_in, bytes_of, name_of, texts_of}
use Rattle.hm_tree.specs.Rows.{IsRowTable, IsStartAppended, events_of}
use Rattle.hm_tree.specs.Starts.{name_before, name_from, no_piece}
use Rattle.hm_tree.specs.declared.pieces.AttributePieces.{AttributePieces}
use Rattle.hm_tree.specs.declared.pieces.TextRange.{TextRange}
use Rattle.hm_tree.specs.declared.rows.RowPart.{RowPart}
use Rattle.hm_tree.specs.declared.rows.RowPart.TheVariants as parts
use Rattle.hm_tree.specs.declared.rows.EventRow.{EventRow}
use Rattle.hm_tree.proofs.PartLemmas.{after_fewer}
use Rattle.hm_tree.proofs.PieceLemmas.{IsPiece-append, IsPiece-new, bytes_of-append, bytes_of-new}
use Rattle.hm_tree.proofs.ShownLemmas.{IsUtf8-texts_of, few_attributes, length-texts_of}
use Rattle.hm_tree.proofs.TableLemmas.{IsNewRow, IsTableOf, IsTableOf-push}

-- the name is n, and t and `new` are the bytes and the pieces that are then there
module _ (s n t : List ℕ) (pieces new : List AttributePieces) (foreign : Bool) (attributes : List Attribute) (count : ℕ) (name : TextRange) (first : ℕ)
    (utf8 : IsUtf8 n) (texts : are_texts attributes ≡ true) (from : name.from ≡ length s) (to : name.to ≡ length s + length n)
    (appended : IsAppended (s ++ n) pieces attributes t new) (begins : first ≡ length pieces) (all : count ≡ length attributes) where
  name_piece : IsPiece (s ++ n) name
  name_piece = IsPiece-new s n name utf8 from to

  named : IsPiece t name
  named = rw (appended.text) (IsPiece-append (s ++ n) (texts_of attributes) name (IsUtf8-texts_of attributes texts) name_piece)

  -- as many pieces are there as attributes
  counted : length (drop (length pieces) new) ≡ count
  counted = sym (length-map (drop (length pieces) new) (attribute_in t)) ∙ ap length appended.shown ∙ sym all

  last : length new ≡ first + count
  last = omega (arith, begins, counted, ap length appended.kept, length-append pieces (drop (length pieces) new))

  own : slice_range new first (first + count) ≡ drop (length pieces) new
  own = rw begins (take_all (length pieces + count - length pieces) (drop (length pieces) new) (omega (arith, counted)))

  name_is : bytes_of t name ≡ n
  name_is = rw (appended.text) (bytes_of-append (s ++ n) (texts_of attributes) name name_piece ∙ bytes_of-new s n name from to)

  shows : attributes_in t (slice_range new first (first + count)) ≡ attributes
  shows = ap (attributes_in t) own ∙ appended.shown

  whole : t ≡ s ++ (n ++ texts_of attributes)
  whole = appended.text ∙ append_assoc s n (texts_of attributes)

-- a start for which a byte each is enough
pub IsStartAppended-short : (s n t : List ℕ) (pieces new : List AttributePieces) (foreign : Bool) (attributes : List Attribute) (len count from first : ℕ) → IsUtf8 n → are_texts attributes ≡ true → from ≡ length s → len ≡ length n
    → IsAppended (s ++ n) pieces attributes t new → first ≡ length pieces → count ≡ length attributes → IsStartAppended s pieces n foreign attributes t new (parts.Start foreign len count from first)
IsStartAppended-short s n t pieces new foreign attributes len count from first utf8 texts begins_name ends_name appended begins all =
    let name : TextRange = name_from from len in
    let to : name.to ≡ length s + length n = omega (arith, begins_name, ends_name) in
    record {
      text = whole s n t pieces new foreign attributes count name first utf8 texts begins_name to appended begins all;
      kept = appended.kept;
      pieces_inside = appended.inside;
      few = omega (arith, counted s n t pieces new foreign attributes count name first utf8 texts begins_name to appended begins all, all);
      row_inside = (named s n t pieces new foreign attributes count name first utf8 texts begins_name to appended begins all, omega (arith, last s n t pieces new foreign attributes count name first utf8 texts begins_name to appended begins all));
      after = omega (arith, begins);
      reaches = tt;
      event = ap₂ (λ m list. start m foreign list) (name_is s n t pieces new foreign attributes count name first utf8 texts begins_name to appended begins all) (shows s n t pieces new foreign attributes count name first utf8 texts begins_name to appended begins all);
    }

-- one that has a piece for its name
module _ (s n t : List ℕ) (before new : List AttributePieces) (foreign : Bool) (attributes : List Attribute) (count : ℕ) (name : TextRange) (p : AttributePieces) (first : ℕ)
    (utf8 : IsUtf8 n) (texts : are_texts attributes ≡ true) (from : name.from ≡ length s) (to : name.to ≡ length s + length n) (is : p ≡ record { from = name.from; middle = name.to; to = name.to })
    (appended : IsAppended (s ++ n) (before ++ p ∷ []) attributes t new) (begins : first ≡ length (before ++ p ∷ [])) (all : count ≡ length attributes) where
  abbrev rest : List AttributePieces
  rest = drop (length (before ++ p ∷ [])) new

  new_is : new ≡ before ++ p ∷ rest
  new_is = sym appended.kept ∙ append_assoc before (p ∷ []) rest

  following : drop (length before) new ≡ p ∷ rest
  following = ap (drop (length before)) new_is ∙ drop_at before (p ∷ rest) (length before) refl

  piece : IsPiece t name
  piece = named s n t (before ++ p ∷ []) new foreign attributes count name first utf8 texts from to appended begins all

  name_pieces : HasPieces t p
  name_pieces = rw is (piece, record { ordered = omega arith; from_boundary = piece.to_boundary; to_boundary = piece.to_boundary })

  few_pieces : length (drop (length before) new) ≤ length attributes + 1
  few_pieces = omega (arith, ap length following, counted s n t (before ++ p ∷ []) new foreign attributes count name first utf8 texts from to appended begins all, all)

  name_there : name_before new first ≡ name
  name_there =
      let at : first - 1 ≡ length before + 0 = omega (arith, begins, length-append before (p ∷ [])) in
      let there : get_or new (first - 1) no_piece ≡ p = ap₂ (λ xs i. get_or xs i no_piece) new_is at ∙ get_or-append-add before (p ∷ rest) 0 no_piece in
      ap name_of (there ∙ is)

  pub IsStartAppended-long : IsStartAppended s before n foreign attributes t new (parts.LongStart foreign count first)
  IsStartAppended-long = record {
    text = whole s n t (before ++ p ∷ []) new foreign attributes count name first utf8 texts from to appended begins all;
    kept = ap (λ xs. before ++ xs) following ∙ sym new_is;
    pieces_inside = rw following (All-cons (HasPieces t) p rest name_pieces appended.inside);
    few = few_pieces;
    row_inside = (omega (arith, begins, length-append before (p ∷ [])), omega (arith, last s n t (before ++ p ∷ []) new foreign attributes count name first utf8 texts from to appended begins all));
    after = omega (arith, begins, length-append before (p ∷ []));
    reaches = tt;
    event = ap₂ (λ m list. start m foreign list) (ap (bytes_of t) name_there ∙ name_is s n t (before ++ p ∷ []) new foreign attributes count name first utf8 texts from to appended begins all) (shows s n t (before ++ p ∷ []) new foreign attributes count name first utf8 texts from to appended begins all);
  }

-- the row of a start that was appended so
module _ (s n t : List ℕ) (pieces new : List AttributePieces) (rows : List EventRow) (w : List Event) (foreign : Bool) (attributes : List Attribute) (parent : Option ℕ) (part : RowPart)
    (utf8 : IsUtf8 n) (texts : are_texts attributes ≡ true) (distinct : has_distinct_names attributes ≡ true) (h : IsStartAppended s pieces n foreign attributes t new part) where
  new_row : parent ≡ innermost w → length w + 1 < 2 ^ 29 → walk_size w + event_size (start n foreign attributes) < 2 ^ 29
      → IsNewRow (n ++ texts_of attributes) t (drop (length pieces) new) new w (record { part = part; parent = parent }) (start n foreign attributes)
  new_row above room bytes = record {
    utf8 = IsUtf8-append n (texts_of attributes) utf8 (IsUtf8-texts_of attributes texts);
    event = h.event;
    inside = h.row_inside;
    attributes = h.pieces_inside;
    own = λ m all_kept. after_fewer m (length pieces) part (omega (arith, all_kept, ap length h.kept, length-append pieces (drop (length pieces) new))) h.after;
    reaches = h.reaches;
    parent = above;
    sound = and_from (is_utf8 n && are_texts attributes) (has_distinct_names attributes) (and_from (is_utf8 n) (are_texts attributes) (is_utf8-from_IsUtf8 n utf8) texts) distinct;
    room = room;
    bytes = bytes;
    size = omega (arith, length-append n (texts_of attributes), length-texts_of attributes);
    count = omega (arith, few_attributes attributes distinct, h.few);
  }

  pub IsTableOf-start : events_of s pieces rows ≡ w → IsRowTable s pieces rows → parent ≡ innermost w → length w + 1 < 2 ^ 29 → walk_size w + event_size (start n foreign attributes) < 2 ^ 29
      → IsTableOf t new (rows ++ record { part = part; parent = parent } ∷ []) (w ++ start n foreign attributes ∷ [])
  IsTableOf-start view table above room bytes =
      IsTableOf-push s (n ++ texts_of attributes) t pieces (drop (length pieces) new) new rows w (record { part = part; parent = parent }) (start n foreign attributes)
      (sym h.text) h.kept view table (new_row above room bytes)
