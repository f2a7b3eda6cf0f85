-- What rows have of the attributes, and what is alike in the rows of starts.
use Rattle.std.proofs.Common.{◌≡◌, ℕ, ◌+◌, ◌-◌, ◌^◌, ◌<◌, ◌≤◌, List, length, get_or, drop, slice_range, Some, All, sym, ap, subst, ◌∙◌, refl, arith}
use Rattle.std.proofs.lemmas.List.{get_or-drop, get_or-take}
use Rattle.hm_base.specs.Walks.{start}
use Rattle.hm_tree.specs.Pieces.{HasPieces, IsPiece, attributes_in, bytes_of, name_of}
use Rattle.hm_tree.specs.Rows.{IsInside, IsAfter, own_end, event_at}
use Rattle.hm_tree.specs.Starts.{HasName, end_part, fewer, flag_of, name_at, name_before, no_piece, own_of}
use Rattle.hm_tree.specs.declared.pieces.AttributePieces.{AttributePieces}
use Rattle.hm_tree.specs.declared.rows.RowPart.{RowPart}
use Rattle.hm_tree.specs.declared.rows.RowPart.TheVariants as parts
use Rattle.hm_tree.specs.declared.starts.AttributeRange.{AttributeRange}

-- rows whose attributes are none of the first n begin no earlier
pub grows : (n : ℕ) (part : RowPart) → IsAfter n part → n ≤ own_end n part
grows n (parts.Doctype legacy) h = omega arith
grows n (parts.Start foreign len count from first) h = omega (arith, h)
grows n (parts.LongStart foreign count first) h = omega (arith, h)
grows n (parts.Text raw p) h = omega arith
grows n (parts.Comment p) h = omega arith
grows n (parts.End foreign name) h = omega arith

-- attributes that are none of the first n are none of fewer
pub after_fewer : (m n : ℕ) (part : RowPart) → m ≤ n → IsAfter n part → IsAfter m part
after_fewer m n (parts.Doctype legacy) le h = tt
after_fewer m n (parts.Start foreign len count from first) le h = omega (arith, le, h)
after_fewer m n (parts.LongStart foreign count first) le h = omega (arith, le, h)
after_fewer m n (parts.Text raw p) le h = tt
after_fewer m n (parts.Comment p) le h = tt
after_fewer m n (parts.End foreign name) le h = tt

pub ends_fewer : (m n : ℕ) (part : RowPart) → m ≤ n → own_end m part ≤ own_end n part
ends_fewer m n (parts.Doctype legacy) le = le
ends_fewer m n (parts.Start foreign len count from first) le = omega arith
ends_fewer m n (parts.LongStart foreign count first) le = omega arith
ends_fewer m n (parts.Text raw p) le = le
ends_fewer m n (parts.Comment p) le = le
ends_fewer m n (parts.End foreign name) le = le

-- they end among those that are there
pub ends_within : (s : List ℕ) (n m : ℕ) (part : RowPart) → n ≤ m → IsInside s m part → own_end n part ≤ m
ends_within s n m (parts.Doctype legacy) le h = le
ends_within s n m (parts.Start foreign len count from first) le h = h.1
ends_within s n m (parts.LongStart foreign count first) le h = h.1
ends_within s n m (parts.Text raw p) le h = le
ends_within s n m (parts.Comment p) le h = le
ends_within s n m (parts.End foreign name) le h = le

-- ---- The name in a piece

one_of : (xs : List AttributePieces) (i j : ℕ) → i + 1 ≡ j → get_or (slice_range xs i j) 0 no_piece ≡ get_or xs i no_piece
one_of xs i j one =
    let here : i + 0 ≡ i = omega arith in
    get_or-take (j - i) (drop i xs) 0 no_piece (omega (arith, one)) ∙ get_or-drop i xs 0 no_piece ∙ ap (λ k. get_or xs k no_piece) here

-- it stays where that piece does
pub name_stays : (old new : List AttributePieces) (first : ℕ) → 0 < first → slice_range new (first - 1) first ≡ slice_range old (first - 1) first → name_before new first ≡ name_before old first
name_stays old new first some same =
    let one : (first - 1) + 1 ≡ first = omega (arith, some) in
    let both : get_or new (first - 1) no_piece ≡ get_or old (first - 1) no_piece =
    sym (one_of new (first - 1) first one) ∙ ap (λ xs. get_or xs 0 no_piece) same ∙ one_of old (first - 1) first one in
    ap name_of both

-- ---- Starts

-- A part that is a start, with so many attributes from an index on.
pub record IsStart (part : RowPart) (first count : ℕ) : Type 0 where
  pub event : (s : List ℕ) (pieces : List AttributePieces) → event_at s pieces part ≡ start (bytes_of s (name_at pieces part)) (flag_of part) (attributes_in s (slice_range pieces first (first + count)))
  pub ends : (n : ℕ) → own_end n part ≡ first + count
  pub after : (n : ℕ) → IsAfter n part → n ≤ first
  pub within : (s : List ℕ) (n : ℕ) → IsInside s n part → first + count ≤ n
  pub stays : (n : ℕ) → IsAfter n part → (old new : List AttributePieces) → ((from to : ℕ) → to ≤ first → slice_range new from to ≡ slice_range old from to) → name_at new part ≡ name_at old part
  pub named : (s : List ℕ) (pieces : List AttributePieces) → IsInside s (length pieces) part → All (HasPieces s) pieces → IsPiece s (name_at pieces part)
  pub has_name : (s : List ℕ) (pieces : List AttributePieces) → length s < 2 ^ 32 → IsInside s (length pieces) part → HasName pieces part
  pub end_is : (pieces : List AttributePieces) → end_part pieces part ≡ parts.End (flag_of part) (name_at pieces part)

same_own : (a b : AttributeRange) → Some a ≡ Some b → a ≡ b
same_own a b e = let is : a ≡ b = cc in is

pub is_start : (part : RowPart) (own : AttributeRange) → own_of part ≡ Some own → IsStart part own.first own.count
is_start (parts.Doctype legacy) own is = absurd (cc)
is_start (parts.Start foreign len count from first) own is =
    subst (λ (o : AttributeRange). IsStart (parts.Start foreign len count from first) o.first o.count) (same_own (record { first = first; count = count }) own is) (record {
      event = λ s pieces. refl;
      ends = λ n. refl;
      after = λ n h. h;
      within = λ s n h. h.1;
      stays = λ n h old new below. refl;
      named = λ s pieces h all. h.0;
      has_name = λ s pieces small h. omega (arith, h.0.to_boundary.0, small);
      end_is = λ pieces. refl;
    })
is_start (parts.LongStart foreign count first) own is =
    subst (λ (o : AttributeRange). IsStart (parts.LongStart foreign count first) o.first o.count) (same_own (record { first = first; count = count }) own is) (record {
      event = λ s pieces. refl;
      ends = λ n. refl;
      after = λ n h. omega (arith, h);
      within = λ s n h. h.1;
      stays = λ n h old new below. name_stays old new first (omega (arith, h)) (below (first - 1) first (omega arith));
      named = λ s pieces h all. (all (first - 1) no_piece (omega (arith, h.0, h.1))).0;
      has_name = λ s pieces small h. (h.0, omega (arith, h.1));
      end_is = λ pieces. refl;
    })
is_start (parts.Text raw p) own is = absurd (cc)
is_start (parts.Comment p) own is = absurd (cc)
is_start (parts.End foreign name) own is = absurd (cc)

-- The same start with so many of its attributes.
pub record IsSameStart (part other : RowPart) (first count : ℕ) : Type 0 where
  pub event : (s : List ℕ) (pieces : List AttributePieces) → event_at s pieces other ≡ start (bytes_of s (name_at pieces part)) (flag_of part) (attributes_in s (slice_range pieces first (first + count)))
  pub ends : (n : ℕ) → own_end n other ≡ first + count
  pub after : (n : ℕ) → IsAfter n part → IsAfter n other
  pub inside : (s : List ℕ) (n : ℕ) → IsInside s n part → IsInside s n other

pub itself : (part : RowPart) (first count : ℕ) → IsStart part first count → IsSameStart part part first count
itself part first count is = record {
  event = is.event;
  ends = is.ends;
  after = λ n h. h;
  inside = λ s n h. h;
}

pub one_fewer : (part : RowPart) (own : AttributeRange) → own_of part ≡ Some own → IsSameStart part (fewer part) own.first (own.count - 1)
one_fewer (parts.Doctype legacy) own is = absurd (cc)
one_fewer (parts.Start foreign len count from first) own is =
    let part : RowPart = parts.Start foreign len count from first in
    subst (λ (o : AttributeRange). IsSameStart part (fewer part) o.first (o.count - 1)) (same_own (record { first = first; count = count }) own is) (record {
      event = λ s pieces. refl;
      ends = λ n. refl;
      after = λ n h. h;
      inside = λ s n h. (h.0, omega (arith, h.1));
    })
one_fewer (parts.LongStart foreign count first) own is =
    let part : RowPart = parts.LongStart foreign count first in
    subst (λ (o : AttributeRange). IsSameStart part (fewer part) o.first (o.count - 1)) (same_own (record { first = first; count = count }) own is) (record {
      event = λ s pieces. refl;
      ends = λ n. refl;
      after = λ n h. h;
      inside = λ s n h. (h.0, omega (arith, h.1));
    })
one_fewer (parts.Text raw p) own is = absurd (cc)
one_fewer (parts.Comment p) own is = absurd (cc)
one_fewer (parts.End foreign name) own is = absurd (cc)
