-- What a scan returns: a token whose places can be cut, and the place after it.
use Rattle.std.proofs.Common.{◌≡◌, ℕ, ◌+◌, ◌-◌, ◌<◌, ◌≤◌, List, length, get_or, Option, refl, sym, subst, arith, IsUtf8, IsCharBoundary}
use Rattle.std.proofs.lemmas.Str.{IsCharBoundary-before_ascii, IsCharBoundary-after_ascii}
use Rattle.hm_base.specs.Bytes.{Cut}
use Rattle.hm_tree.specs.Tokens.{Reads, IsPiece}
use Rattle.hm_tree.specs.declared.tokens.Token.TheVariants as tokens
use Rattle.hm_scan.specs.Pieces.{as_comment, as_slice}
use Rattle.hm_scan.specs.Found.{IsFound, IsFoundAfter}
use Rattle.hm_scan.specs.declared.search.MarkPiece.{MarkPiece}

-- after a byte below 128 a text can be cut
pub boundary_after : (s : List ℕ) (n : ℕ) → IsUtf8 s → 0 < n → n ≤ length s → get_or s (n - 1) 0 < 128 → IsCharBoundary s n
boundary_after s n utf8 some inside ascii =
    let at : n - 1 + 1 ≡ n = omega arith in
    subst (IsCharBoundary s) at (IsCharBoundary-after_ascii s (n - 1) utf8 (omega arith) ascii)

module _ (s : List ℕ) (utf8 : IsUtf8 s) (start : ℕ) (cut : Option Cut) (p : MarkPiece) (h : IsFoundAfter s start cut p) where
  pub piece_cuts : IsPiece s p.from p.to
  piece_cuts =
      let found = h.found in
      let inside : p.to < length s = omega (arith, found.ends, found.inside) in
      record {
        ordered = found.ordered;
        from_boundary = boundary_after s p.from utf8 (omega (arith, h.beyond)) (omega (arith, found.ordered)) h.ascii;
        to_boundary = IsCharBoundary-before_ascii s p.to inside found.first;
      }

  pub end_cuts : IsCharBoundary s p.after
  end_cuts = boundary_after s p.after utf8 (omega (arith, h.found.ends)) h.found.inside h.found.last

  pub comment_read : Reads (as_comment cut) s (tokens.Comment p.from p.to) p.after
  comment_read = record { is = rw h.found.is refl; inside = piece_cuts; boundary = end_cuts }

  pub slice_read : Reads (as_slice cut) s (tokens.Slice p.from p.to) p.after
  slice_read = record { is = rw h.found.is refl; inside = piece_cuts; boundary = end_cuts }

-- a piece from a place on that stands after an ASCII byte
pub found_after : (s : List ℕ) (start from : ℕ) (cut : Option Cut) (p : MarkPiece) → start < from → get_or s (from - 1) 0 < 128 → IsFound s from cut p → IsFoundAfter s start cut p
found_after s start from cut p beyond ascii found =
    let same : p.from ≡ from = found.starts in
    record {
      beyond = rw same beyond;
      ascii = rw same ascii;
      found = subst (λ n. IsFound s n cut p) (sym same) found;
    }
