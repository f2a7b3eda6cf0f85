-- Scans of doctypes.
use Rattle.std.proofs.Common.{◌≡◌, ℕ, ◌+◌, ◌-◌, ◌≤◌, Bool, true, List, length, drop, slice_range, Some, None, refl, ap, sym, arith, codes, IsUtf8, length-drop}
use Rattle.std.proofs.lemmas.List.{drop-drop}
use Rattle.hm_base.specs.Bytes.{cut_at}
use Rattle.hm_tree.specs.Tokens.{refused, Reads}
use Rattle.hm_tree.specs.declared.tokens.Token.TheVariants as tokens
use Rattle.hm_tree.specs.declared.tokens.ScanFault.TheVariants as faults
use Rattle.hm_scan.specs.Doctypes.{begins_doctype, doctype_form, as_doctype, read_doctype}
use Rattle.hm_scan.specs.Found.{IsFound}
use Rattle.hm_scan.specs.declared.search.MarkPiece.{MarkPiece}
use Rattle.hm_scan.proofs.Lowered.{word_long}
use Rattle.hm_scan.proofs.Places.{boundary_after}

pub doctype_long : (s : List ℕ) (at : ℕ) → begins_doctype (drop at s) ≡ true → at + 9 ≤ length s
unfolding begins_doctype
doctype_long s at h =
    let long : 9 ≤ length (drop at s) = word_long (codes "<!doctype") (drop at s) h in
    let size : length (drop at s) ≡ length s - at = length-drop at s in
    omega arith

pub doctype_open : (s : List ℕ) (at : ℕ) → cut_at (codes ">") (drop (at + 9) s) ≡ None → read_doctype (drop at s) ≡ refused faults.Cut
unfolding read_doctype
doctype_open s at none = rw (drop-drop 9 at s) (ap as_doctype none)

module _ (s : List ℕ) (at : ℕ) (p : MarkPiece) (found : IsFound s (at + 9) (cut_at (codes ">") (drop (at + 9) s)) p) where
  pub doctype_bad : None ≡ doctype_form (slice_range s p.from p.to) → read_doctype (drop at s) ≡ refused faults.BadDoctype
  unfolding read_doctype
  doctype_bad form = rw (drop-drop 9 at s, found.is, sym form) refl

  pub doctype_read : (legacy : Bool) → IsUtf8 s → Some legacy ≡ doctype_form (slice_range s p.from p.to) → Reads (read_doctype (drop at s)) s (tokens.Doctype legacy) p.after
  unfolding read_doctype
  doctype_read legacy utf8 form = record {
    is = rw (drop-drop 9 at s, found.is, sym form) refl;
    inside = tt;
    boundary = boundary_after s p.after utf8 (omega (arith, found.ends)) found.inside found.last;
  }
