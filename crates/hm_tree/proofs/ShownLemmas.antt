-- Attributes as pieces of a text, where more is appended to the text and to them.
use Rattle.std.proofs.Common.{◌≡◌, ℕ, ◌+◌, ◌-◌, ◌≤◌, zero, suc, Bool, true, false, not, cond, ◌&&◌, List, [], ◌∷◌, ◌++◌, length, take, drop, get_or, slice_get, Some, slice_range, All, bytes_eq, IsUtf8, ap, ◌∙◌, refl, arith, append_assoc, length-append, length-drop}
use Rattle.std.proofs.lemmas.Bool.{and_parts, not-true}
use Rattle.std.proofs.lemmas.Grind.{flat_map-append}
use Rattle.std.proofs.lemmas.List.{append-nil, drop_all, drop_more, drop-append-le, take-append-le, map-append}
use Rattle.std.proofs.lemmas.List.Elements.{All-head, All-tail, All-push, All-take, All-drop}
use Rattle.std.proofs.lemmas.Option.{slice_get_within, get_or_from_slice_get}
use Rattle.std.proofs.lemmas.Str.{IsUtf8-append, IsUtf8-from_is_utf8, IsUtf8-nil}
use Rattle.std.specs.Str.{is_utf8}
use Rattle.hm_base.specs.Walks.{Attribute, has_name, has_distinct_names, attributes_size}
use Rattle.hm_tree.specs.Attributes.{are_texts}
use Rattle.hm_tree.specs.Pieces.{HasPieces, IsAppended, IsPiece, attribute_in, attributes_in, name_of, texts_of, value_of}
use Rattle.hm_tree.specs.declared.pieces.AttributePieces.{AttributePieces}
use Rattle.hm_tree.proofs.PieceLemmas.{IsPiece-append, IsPiece-new, bytes_of-append, bytes_of-new}

-- a part of a list stays where more is appended to the list
pub slice_range-append : {X : Type 0} (xs ys : List X) (from to : ℕ) → from ≤ to → to ≤ length xs → slice_range (xs ++ ys) from to ≡ slice_range xs from to
slice_range-append xs ys from to ordered within =
    let from_within : from ≤ length xs = omega arith in
    let to_within : to - from ≤ length (drop from xs) = omega (arith, length-drop from xs) in
    ap (take (to - from)) (drop-append-le from xs ys from_within) ∙ take-append-le (to - from) (drop from xs) ys to_within

pub All-slice_range : {X : Type 0} (P : X → Type 0) (xs : List X) (from to : ℕ) → All P xs → All P (slice_range xs from to)
All-slice_range P xs from to h = All-take P (to - from) (drop from xs) (All-drop P from xs h)

-- pieces stay pieces where more is appended to the text
pub HasPieces-append : (s more : List ℕ) (pieces : List AttributePieces) → IsUtf8 more → All (HasPieces s) pieces → All (HasPieces (s ++ more)) pieces
HasPieces-append s more pieces utf8 h k d within =
    (IsPiece-append s more (name_of (get_or pieces k d)) utf8 (h k d within).0, IsPiece-append s more (value_of (get_or pieces k d)) utf8 (h k d within).1)

-- and show the same attributes
pub attributes_in-append : (s more : List ℕ) (pieces : List AttributePieces) → All (HasPieces s) pieces → attributes_in (s ++ more) pieces ≡ attributes_in s pieces
attributes_in-append s more [] h = refl
attributes_in-append s more (a ∷ pieces) h =
    let first : HasPieces s a = All-head (HasPieces s) a pieces h in
    rw (bytes_of-append s more (name_of a) first.0, bytes_of-append s more (value_of a) first.1, attributes_in-append s more pieces (All-tail (HasPieces s) a pieces h)) refl

-- the text of attributes
pub IsUtf8-texts_of : (attributes : List Attribute) → are_texts attributes ≡ true → IsUtf8 (texts_of attributes)
IsUtf8-texts_of [] h = IsUtf8-nil
IsUtf8-texts_of (a ∷ attributes) h =
    let parts = and_parts (is_utf8 a.name && is_utf8 a.value) (are_texts attributes) h in
    let both = and_parts (is_utf8 a.name) (is_utf8 a.value) parts.0 in
    IsUtf8-append (a.name ++ a.value) (texts_of attributes) (IsUtf8-append a.name a.value (IsUtf8-from_is_utf8 a.name both.0) (IsUtf8-from_is_utf8 a.value both.1)) (IsUtf8-texts_of attributes parts.1)

pub length-texts_of : (attributes : List Attribute) → length (texts_of attributes) ≡ attributes_size attributes
length-texts_of [] = refl
length-texts_of (a ∷ attributes) = omega (arith, length-append (a.name ++ a.value) (texts_of attributes), length-append a.name a.value, length-texts_of attributes)

neither : (b r : Bool) → cond b true r ≡ false → (b ≡ false) × (r ≡ false)
neither true r h = absurd (cc)
neither false r h = (refl, h)

named : (n : List ℕ) → bytes_eq n [] ≡ false → 1 ≤ length n
named [] h = absurd (cc)
named (c ∷ n) h = omega arith

few_named : (attributes : List Attribute) → has_name [] attributes ≡ false → length attributes ≤ attributes_size attributes
few_named [] h = omega arith
few_named (a ∷ attributes) h =
    let parts = neither (bytes_eq a.name []) (has_name [] attributes) h in
    omega (arith, named a.name parts.0, few_named attributes parts.1)

by_name : (a : Attribute) (attributes : List Attribute) (n : List ℕ) → a.name ≡ n → has_name a.name attributes ≡ false → length attributes ≤ attributes_size attributes + 1
    → length (a ∷ attributes) ≤ attributes_size (a ∷ attributes) + 1
by_name a attributes [] e other few = omega (arith, few_named attributes (rw e at other))
by_name a attributes (c ∷ n) e other few = omega (arith, ap length e, few)

-- names are distinct, so that at most one is empty
pub few_attributes : (attributes : List Attribute) → has_distinct_names attributes ≡ true → length attributes ≤ attributes_size attributes + 1
few_attributes [] h = omega arith
few_attributes (a ∷ attributes) h =
    let parts = and_parts (not (has_name a.name attributes)) (has_distinct_names attributes) h in
    by_name a attributes a.name refl (not-true (has_name a.name attributes) parts.0) (few_attributes attributes parts.1)

-- one more attribute
module _ (s : List ℕ) (before : List AttributePieces) (attributes : List Attribute) (t : List ℕ) (pieces : List AttributePieces) (h : IsAppended s before attributes t pieces)
    (a : Attribute) (name_utf8 : IsUtf8 a.name) (value_utf8 : IsUtf8 a.value) (p : AttributePieces)
    (from : p.from ≡ length t) (middle : p.middle ≡ length (t ++ a.name)) (to : p.to ≡ length (t ++ a.name) + length a.value) where
  name_to : p.middle ≡ length t + length a.name
  name_to = omega (arith, middle, length-append t a.name)

  name_piece : IsPiece (t ++ a.name) (name_of p)
  name_piece = IsPiece-new t a.name (name_of p) name_utf8 from name_to

  has_pieces : HasPieces ((t ++ a.name) ++ a.value) p
  has_pieces = (IsPiece-append (t ++ a.name) a.value (name_of p) value_utf8 name_piece, IsPiece-new (t ++ a.name) a.value (value_of p) value_utf8 middle to)

  shows : attribute_in ((t ++ a.name) ++ a.value) p ≡ a
  shows = rw (bytes_of-append (t ++ a.name) a.value (name_of p) name_piece, bytes_of-new t a.name (name_of p) from name_to, bytes_of-new (t ++ a.name) a.value (value_of p) middle to) refl

  after : drop (length before) (pieces ++ p ∷ []) ≡ drop (length before) pieces ++ p ∷ []
  after = drop-append-le (length before) pieces (p ∷ []) (omega (arith, ap length h.kept, length-append before (drop (length before) pieces)))

  whole : (t ++ a.name) ++ a.value ≡ t ++ (a.name ++ a.value)
  whole = append_assoc t a.name a.value

  pub IsAppended-more : IsAppended s before (attributes ++ a ∷ []) ((t ++ a.name) ++ a.value) (pieces ++ p ∷ [])
  IsAppended-more =
      let old = drop (length before) pieces in
      let utf8 : IsUtf8 (a.name ++ a.value) = IsUtf8-append a.name a.value name_utf8 value_utf8 in
      let stays : attributes_in (t ++ (a.name ++ a.value)) old ≡ attributes = attributes_in-append t (a.name ++ a.value) old h.inside ∙ h.shown in
      let still : All (HasPieces (t ++ (a.name ++ a.value))) old = HasPieces-append t (a.name ++ a.value) old utf8 h.inside in
      record {
        text = whole ∙ ap (λ u. u ++ (a.name ++ a.value)) h.text ∙ rw (flat_map-append (λ b. b.name ++ b.value) attributes (a ∷ []), append-nil) (append_assoc s (texts_of attributes) (a.name ++ a.value));
        kept = rw (after, ← append_assoc, h.kept) refl;
        inside = rw after (All-push (HasPieces ((t ++ a.name) ++ a.value)) old p (rw whole still) has_pieces);
        shown = rw after (map-append (attribute_in ((t ++ a.name) ++ a.value)) old (p ∷ []) ∙ rw (shows, whole, stays) refl);
      }

-- the bytes of the attributes from an index on
pub size_from : (attributes : List Attribute) (i : ℕ) (a : Attribute) → slice_get attributes i ≡ Some a → attributes_size (drop i attributes) ≡ length a.name + length a.value + attributes_size (drop (i + 1) attributes)
size_from attributes i a at = rw (drop_more attributes i a (slice_get_within attributes i a at), get_or_from_slice_get attributes i a a at) refl

pub size_past : (attributes : List Attribute) (i : ℕ) → length attributes ≤ i → attributes_size (drop i attributes) ≡ 0
size_past attributes i past = rw (drop_all i attributes past) refl

-- names and values are UTF-8
pub texts_at : (attributes : List Attribute) (i : ℕ) (a : Attribute) → are_texts attributes ≡ true → slice_get attributes i ≡ Some a → IsUtf8 a.name × IsUtf8 a.value
texts_at [] i a h at = absurd (cc)
texts_at (b ∷ attributes) zero a h at =
    let is : b ≡ a = cc in
    let parts = and_parts (is_utf8 b.name && is_utf8 b.value) (are_texts attributes) h in
    let both = and_parts (is_utf8 b.name) (is_utf8 b.value) parts.0 in
    rw (← is) (IsUtf8-from_is_utf8 b.name both.0, IsUtf8-from_is_utf8 b.value both.1)
texts_at (b ∷ attributes) (suc i) a h at = texts_at attributes i a (and_parts (is_utf8 b.name && is_utf8 b.value) (are_texts attributes) h).1 at
