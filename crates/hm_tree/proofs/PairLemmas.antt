-- Attributes in one text, where one more is appended to them, and where the text is appended to another.
use Rattle.std.proofs.Common.{◌≡◌, ℕ, ◌+◌, ◌-◌, ◌<◌, ◌≤◌, ◌&&◌, true, List, [], ◌∷◌, ◌++◌, length, map, take, drop, get_or, slice_get, Some, All, IsUtf8, IsCharBoundary, sym, ap, ◌∙◌, refl, arith, append_assoc, length-append}
use Rattle.std.proofs.lemmas.Bool.{and_from}
use Rattle.std.proofs.lemmas.Grind.{flat_map-append}
use Rattle.std.proofs.lemmas.List.{append-nil, map-append, get_or-append-add, length-map, take_more, take_all, drop-append-le, drop_all}
use Rattle.std.proofs.lemmas.List.Elements.{All-nil, All-head, All-tail, All-push, All-map}
use Rattle.std.proofs.lemmas.Option.{slice_get-get_or, slice_get-map}
use Rattle.std.proofs.lemmas.Str.{is_utf8-from_IsUtf8}
use Rattle.std.proofs.Math.Seq.{drop-append-add}
use Rattle.std.specs.Str.{is_utf8}
use Rattle.hm_base.specs.Walks.{Attribute}
use Rattle.hm_tree.specs.Attributes.{are_texts}
use Rattle.hm_tree.specs.Pairs.{HasPair, IsShifted, pieces_of, attributes_of}
use Rattle.hm_tree.specs.Pieces.{HasPieces, IsAppended, IsPiece, attribute_in, attributes_in, bytes_of, name_of, texts_of, value_of}
use Rattle.hm_tree.specs.declared.pieces.AttributePieces.{AttributePieces}
use Rattle.hm_tree.specs.declared.pieces.Pair.{Pair}
use Rattle.hm_tree.specs.declared.pieces.TextRange.{TextRange}
use Rattle.hm_tree.proofs.PieceLemmas.{IsPiece-append, IsPiece-new, bytes_of-append, bytes_of-new, IsUtf8-bytes_of}
use Rattle.hm_tree.proofs.ShownLemmas.{HasPieces-append, attributes_in-append}

-- names and values in a text are UTF-8
texts_in : (s : List ℕ) (pieces : List AttributePieces) → IsUtf8 s → All (HasPieces s) pieces → are_texts (attributes_in s pieces) ≡ true
texts_in s [] utf8 h = refl
texts_in s (a ∷ pieces) utf8 h =
    let first : HasPieces s a = All-head (HasPieces s) a pieces h in
    let name : is_utf8 (bytes_of s (name_of a)) ≡ true = is_utf8-from_IsUtf8 (bytes_of s (name_of a)) (IsUtf8-bytes_of s (name_of a) utf8 first.0) in
    let value : is_utf8 (bytes_of s (value_of a)) ≡ true = is_utf8-from_IsUtf8 (bytes_of s (value_of a)) (IsUtf8-bytes_of s (value_of a) utf8 first.1) in
    and_from (is_utf8 (bytes_of s (name_of a)) && is_utf8 (bytes_of s (value_of a))) (are_texts (attributes_in s pieces)) (and_from (is_utf8 (bytes_of s (name_of a))) (is_utf8 (bytes_of s (value_of a))) name value)
    (texts_in s pieces utf8 (All-tail (HasPieces s) a pieces h))

pub texts_held : (s : List ℕ) (pairs : List Pair) → IsUtf8 s → All (HasPair s) pairs → are_texts (attributes_of s pairs) ≡ true
texts_held s pairs utf8 h = texts_in s (map pieces_of pairs) utf8 (All-map (HasPieces s) pieces_of pairs h)

pub length-pairs : (s : List ℕ) (pairs : List Pair) → length (attributes_of s pairs) ≡ length pairs
length-pairs s pairs = length-map (map pieces_of pairs) (attribute_in s) ∙ length-map pairs pieces_of

-- the attribute that stands at an index
pub attributes_at : (s : List ℕ) (pairs : List Pair) (i : ℕ) (p : Pair) → i < length (attributes_of s pairs) → p ≡ get_or pairs i p → slice_get (attributes_of s pairs) i ≡ Some (attribute_in s (pieces_of p))
attributes_at s pairs i p within at =
    let there : slice_get pairs i ≡ Some p = slice_get-get_or pairs i p (omega (arith, within, length-pairs s pairs)) ∙ ap Some (sym at) in
    slice_get-map (attribute_in s) (map pieces_of pairs) i ∙ rw (slice_get-map pieces_of pairs i, there) refl

abbrev pub no_pair : Pair
no_pair = record { from = 0; middle = 0; to = 0 }

-- one more attribute, whose name and value are appended to the text
module _ (s : List ℕ) (pairs : List Pair) (inside : All (HasPair s) pairs) (a : Attribute) (name_utf8 : IsUtf8 a.name) (value_utf8 : IsUtf8 a.value) (p : Pair)
    (from : p.from ≡ length s) (middle : p.middle ≡ length (s ++ a.name)) (to : p.to ≡ length ((s ++ a.name) ++ a.value)) where
  name_to : p.middle ≡ length s + length a.name
  name_to = omega (arith, middle, length-append s a.name)

  value_to : p.to ≡ length (s ++ a.name) + length a.value
  value_to = omega (arith, to, length-append (s ++ a.name) a.value)

  name_piece : IsPiece (s ++ a.name) (name_of (pieces_of p))
  name_piece = IsPiece-new s a.name (name_of (pieces_of p)) name_utf8 from name_to

  has_pieces : HasPieces ((s ++ a.name) ++ a.value) (pieces_of p)
  has_pieces = (IsPiece-append (s ++ a.name) a.value (name_of (pieces_of p)) value_utf8 name_piece, IsPiece-new (s ++ a.name) a.value (value_of (pieces_of p)) value_utf8 middle value_to)

  shows : attribute_in ((s ++ a.name) ++ a.value) (pieces_of p) ≡ a
  shows = rw (bytes_of-append (s ++ a.name) a.value (name_of (pieces_of p)) name_piece, bytes_of-new s a.name (name_of (pieces_of p)) from name_to, bytes_of-new (s ++ a.name) a.value (value_of (pieces_of p)) middle value_to) refl

  before : All (HasPieces s) (map pieces_of pairs)
  before = All-map (HasPieces s) pieces_of pairs inside

  named : All (HasPieces (s ++ a.name)) (map pieces_of pairs)
  named = HasPieces-append s a.name (map pieces_of pairs) name_utf8 before

  still : All (HasPair ((s ++ a.name) ++ a.value)) pairs
  still k d within =
      let p = get_or pairs k d in (
        IsPiece-append (s ++ a.name) a.value (name_of (pieces_of p)) value_utf8 (IsPiece-append s a.name (name_of (pieces_of p)) name_utf8 (inside k d within).0),
        IsPiece-append (s ++ a.name) a.value (value_of (pieces_of p)) value_utf8 (IsPiece-append s a.name (value_of (pieces_of p)) name_utf8 (inside k d within).1),
      )

  pub pairs_inside : All (HasPair ((s ++ a.name) ++ a.value)) (pairs ++ p ∷ [])
  pairs_inside = All-push (HasPair ((s ++ a.name) ++ a.value)) pairs p still has_pieces

  stays : attributes_of ((s ++ a.name) ++ a.value) pairs ≡ attributes_of s pairs
  stays = attributes_in-append (s ++ a.name) a.value (map pieces_of pairs) named ∙ attributes_in-append s a.name (map pieces_of pairs) before

  pub attributes_of-more : attributes_of ((s ++ a.name) ++ a.value) (pairs ++ p ∷ []) ≡ attributes_of s pairs ++ a ∷ []
  attributes_of-more =
      ap (attributes_in ((s ++ a.name) ++ a.value)) (map-append pieces_of pairs (p ∷ [])) ∙ map-append (attribute_in ((s ++ a.name) ++ a.value)) (map pieces_of pairs) (pieces_of p ∷ [])
      ∙ rw (shows, stays) refl

  pub text_is-more : s ≡ texts_of (attributes_of s pairs) → (s ++ a.name) ++ a.value ≡ texts_of (attributes_of ((s ++ a.name) ++ a.value) (pairs ++ p ∷ []))
  text_is-more is =
      append_assoc s a.name a.value ∙ ap (λ u. u ++ (a.name ++ a.value)) is
      ∙ sym (ap texts_of attributes_of-more ∙ flat_map-append (λ b. b.name ++ b.value) (attributes_of s pairs) (a ∷ []) ∙ ap (λ u. texts_of (attributes_of s pairs) ++ u) (append-nil (a.name ++ a.value)))

-- ---- the text appended to another

boundary_after : (s u : List ℕ) (i : ℕ) → IsCharBoundary u i → IsCharBoundary (s ++ u) (length s + i)
boundary_after s u i b = (omega (arith, b.0, length-append s u), λ h. rw (get_or-append-add s u i 0) (b.1 (omega (arith, h, length-append s u))))

module _ (s u : List ℕ) (p q : TextRange) (from : q.from ≡ length s + p.from) (to : q.to ≡ length s + p.to) where
  IsPiece-after : IsPiece u p → IsPiece (s ++ u) q
  IsPiece-after h = record {
    ordered = omega (arith, h.ordered, from, to);
    from_boundary = rw from (boundary_after s u p.from h.from_boundary);
    to_boundary = rw to (boundary_after s u p.to h.to_boundary);
  }

  bytes_of-after : bytes_of (s ++ u) q ≡ bytes_of u p
  bytes_of-after = rw (from, to, drop-append-add s u p.from, less) refl
    where
      less : (length s + p.to) - (length s + p.from) ≡ p.to - p.from
      less = omega arith

-- these pieces show the attributes of the pairs, where their text u was appended to s
pub record AreShifted (s u : List ℕ) (pairs : List Pair) (pieces : List AttributePieces) : Type 0 where
  pub inside : All (HasPieces (s ++ u)) pieces
  pub shown : attributes_in (s ++ u) pieces ≡ attributes_of u pairs

pub AreShifted-nil : (s u : List ℕ) → AreShifted s u [] []
AreShifted-nil s u = record { inside = All-nil (HasPieces (s ++ u)); shown = refl }

pub AreShifted-more : (s u : List ℕ) (pairs : List Pair) (pieces : List AttributePieces) (p : Pair) (q : AttributePieces) → AreShifted s u pairs pieces → HasPieces u (pieces_of p) → IsShifted (length s) p q
    → AreShifted s u (pairs ++ p ∷ []) (pieces ++ q ∷ [])
AreShifted-more s u pairs pieces p q h own at =
    let one : attribute_in (s ++ u) q ≡ attribute_in u (pieces_of p) =
    rw (bytes_of-after s u (name_of (pieces_of p)) (name_of q) at.from at.middle, bytes_of-after s u (value_of (pieces_of p)) (value_of q) at.middle at.to) refl in
    record {
      inside = All-push (HasPieces (s ++ u)) pieces q h.inside (IsPiece-after s u (name_of (pieces_of p)) (name_of q) at.from at.middle own.0, IsPiece-after s u (value_of (pieces_of p)) (value_of q) at.middle at.to own.1);
      shown = map-append (attribute_in (s ++ u)) pieces (q ∷ []) ∙ rw (h.shown, one) (sym (ap (attributes_in u) (map-append pieces_of pairs (p ∷ [])) ∙ map-append (attribute_in u) (map pieces_of pairs) (pieces_of p ∷ [])));
    }

-- the attributes of a tag appended to those that are there, as far as the pair at i
pub record AreAppended (s u : List ℕ) (before pieces : List AttributePieces) (pairs : List Pair) (i : ℕ) : Type 0 where
  pub kept : before ++ drop (length before) pieces ≡ pieces
  pub shifted : AreShifted s u (take i pairs) (drop (length before) pieces)

pub AreAppended-none : (s u : List ℕ) (before : List AttributePieces) (pairs : List Pair) → AreAppended s u before before pairs 0
AreAppended-none s u before pairs =
    let none : drop (length before) before ≡ [] = drop_all (length before) before (omega arith) in
    record { kept = rw none (append-nil before); shifted = rw none (AreShifted-nil s u) }

pub AreAppended-more : (s u : List ℕ) (before pieces : List AttributePieces) (pairs : List Pair) (i : ℕ) (q : AttributePieces) → AreAppended s u before pieces pairs i → i < length pairs → All (HasPair u) pairs
    → IsShifted (length s) (get_or pairs i no_pair) q → AreAppended s u before (pieces ++ q ∷ []) pairs (i + 1)
AreAppended-more s u before pieces pairs i q h within inside at =
    let p = get_or pairs i no_pair in
    let after : drop (length before) (pieces ++ q ∷ []) ≡ drop (length before) pieces ++ q ∷ [] =
    drop-append-le (length before) pieces (q ∷ []) (omega (arith, ap length h.kept, length-append before (drop (length before) pieces))) in
    record {
      kept = rw (after, ← append_assoc, h.kept) refl;
      shifted = rw (after, take_more pairs i no_pair within) (AreShifted-more s u (take i pairs) (drop (length before) pieces) p q h.shifted (inside i no_pair within) at);
    }

pub AreAppended-all : (s u t : List ℕ) (before pieces : List AttributePieces) (pairs : List Pair) (i : ℕ) (attributes : List Attribute) → AreAppended s u before pieces pairs i → length pairs ≤ i
    → u ≡ texts_of attributes → t ≡ s ++ u → attributes_of u pairs ≡ attributes → IsAppended s before attributes t pieces
AreAppended-all s u t before pieces pairs i attributes h past texts whole shown = record {
  text = whole ∙ ap (λ v. s ++ v) texts;
  kept = h.kept;
  inside = rw whole h.shifted.inside;
  shown = rw whole (h.shifted.shown ∙ ap (attributes_of u) (take_all i pairs past) ∙ shown);
}
