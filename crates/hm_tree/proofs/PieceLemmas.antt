-- Pieces of a text, where more is appended to it.
use Rattle.std.proofs.Common.{◌≡◌, ℕ, ◌+◌, ◌-◌, ◌≤◌, List, ◌++◌, length, take, drop, IsUtf8, IsCharBoundary, sym, ap, subst, ◌∙◌, refl, inl, inr, arith, length-append, length-drop}
use Rattle.std.proofs.lemmas.Bool.{cases_lt}
use Rattle.std.proofs.lemmas.List.{get_or_append_left, drop-append-le, take-append-le, drop_at, take_all, take_rest}
use Rattle.std.proofs.lemmas.Str.{IsCharBoundary-at_seam, IsCharBoundary-end, IsUtf8-between}
use Rattle.hm_tree.specs.declared.pieces.TextRange.{TextRange}
use Rattle.hm_tree.specs.Pieces.{IsPiece, bytes_of}

boundary_stays : (s more : List ℕ) (i : ℕ) → IsUtf8 more → IsCharBoundary s i → IsCharBoundary (s ++ more) i
boundary_stays s more i utf8 b = elim (cases_lt i (length s)) [
  | inl h ↦ (omega (arith, length-append s more), λ _. rw (get_or_append_left s more 0 i h) (b.1 h))
  | inr h ↦
      let here : length s ≡ i = omega (arith, b.0) in
      subst (IsCharBoundary (s ++ more)) here (IsCharBoundary-at_seam (s ++ more) s more refl utf8)
]

-- a piece stays one
pub IsPiece-append : (s more : List ℕ) (p : TextRange) → IsUtf8 more → IsPiece s p → IsPiece (s ++ more) p
IsPiece-append s more p utf8 h = record {
  ordered = h.ordered;
  from_boundary = boundary_stays s more p.from utf8 h.from_boundary;
  to_boundary = boundary_stays s more p.to utf8 h.to_boundary;
}

-- and keeps its bytes
pub bytes_of-append : (s more : List ℕ) (p : TextRange) → IsPiece s p → bytes_of (s ++ more) p ≡ bytes_of s p
bytes_of-append s more p h =
    let from_within : p.from ≤ length s = omega (arith, h.ordered, h.to_boundary.0) in
    let to_within : p.to - p.from ≤ length (drop p.from s) = omega (arith, length-drop p.from s, h.to_boundary.0) in
    ap (take (p.to - p.from)) (drop-append-le p.from s more from_within) ∙ take-append-le (p.to - p.from) (drop p.from s) more to_within

-- what is appended to a text is a piece of the whole
pub IsPiece-new : (s more : List ℕ) (p : TextRange) → IsUtf8 more → p.from ≡ length s → p.to ≡ length s + length more → IsPiece (s ++ more) p
IsPiece-new s more p utf8 from to = record {
  ordered = omega arith;
  from_boundary = rw from (IsCharBoundary-at_seam (s ++ more) s more refl utf8);
  to_boundary = rw (to, ← length-append s more) (IsCharBoundary-end (s ++ more));
}

pub bytes_of-new : (s more : List ℕ) (p : TextRange) → p.from ≡ length s → p.to ≡ length s + length more → bytes_of (s ++ more) p ≡ more
bytes_of-new s more p from to =
    let whole : length more ≤ p.to - p.from = omega arith in
    ap (take (p.to - p.from)) (drop_at s more p.from (sym from)) ∙ take_all (p.to - p.from) more whole

-- a piece at the end of a text, where more is appended to it
pub IsPiece-longer : (s more : List ℕ) (p q : TextRange) → IsUtf8 more → IsPiece s p → q.from ≡ p.from → q.to ≡ length (s ++ more) → IsPiece (s ++ more) q
IsPiece-longer s more p q utf8 h from to = record {
  ordered = omega (arith, h.ordered, h.to_boundary.0, length-append s more);
  from_boundary = rw from (boundary_stays s more p.from utf8 h.from_boundary);
  to_boundary = rw to (IsCharBoundary-end (s ++ more));
}

pub bytes_of-longer : (s more : List ℕ) (p q : TextRange) → IsPiece s p → p.to ≡ length s → q.from ≡ p.from → q.to ≡ length (s ++ more) → bytes_of (s ++ more) q ≡ bytes_of s p ++ more
bytes_of-longer s more p q h ends from to =
    let within : p.from ≤ length s = omega (arith, h.ordered, h.to_boundary.0) in
    rw (to, from, ends, take_rest (s ++ more) p.from, take_rest s p.from, drop-append-le p.from s more within) refl

-- the bytes of a piece are UTF-8
pub IsUtf8-bytes_of : (s : List ℕ) (p : TextRange) → IsUtf8 s → IsPiece s p → IsUtf8 (bytes_of s p)
IsUtf8-bytes_of s p utf8 h = IsUtf8-between s p.from p.to utf8 h.ordered h.from_boundary h.to_boundary
