-- A piece of text as a token.
use Rattle.std.proofs.Common.{◌≡◌, ℕ, ◌+◌, ◌-◌, ◌<◌, ◌≤◌, Bool, List, [], ◌∷◌, length, drop, get_or, slice_range, None, refl, ap, ap₂, subst, ◌∙◌, inl, inr, arith, length-drop, length-take}
use Rattle.std.specs.Str.{IsUtf8, IsCharBoundary}
use Rattle.std.proofs.lemmas.Str.{IsCharBoundary-after_ascii, IsCharBoundary-before_ascii, IsCharBoundary-end}
use Rattle.std.proofs.lemmas.Bool.{cases_lt}
use Rattle.std.proofs.lemmas.List.{drop-drop, get_or-drop}
use Rattle.hm_refs.specs.Names.{Entry}
use Rattle.hm_refs.specs.Reads.{IsReadReference}
use Rattle.hm_refs.specs.declared.scan.Reference.{Reference}
use Rattle.hm_tree.specs.Tokens.{Reads, taken, slice, points}
use Rattle.hm_refs.specs.Tables.{points_list}
use Rattle.hm_tree.specs.declared.tokens.Token.TheVariants as tokens
use Rattle.hm_scan.specs.Texts.{plain_front, read_by, read_text}
use Rattle.hm_scan.specs.TextPlaces.{reference_here, IsPlainTo}

text_by : (t : List Entry) (rcdata : Bool) (s : List ℕ) → read_text t rcdata s ≡ read_by (reference_here t s) t rcdata s
unfolding read_text
text_by t rcdata [] = refl
text_by t rcdata (c ∷ s) = refl

-- where a reference begins
pub reads_points : (t : List Entry) (rcdata : Bool) (s : List ℕ) (at : ℕ) (r : Reference) → IsUtf8 s → at < length s → IsReadReference (reference_here t (drop at s)) (drop at s) r
    → Reads (read_text t rcdata (drop at s)) s (tokens.Points r.points) (at + r.len)
reads_points t rcdata s at r u h found =
    let some : 0 < r.len = found.some in
    let short : r.len ≤ length (drop at s) = found.inside in
    let long : length (drop at s) ≡ length s - at = length-drop at s in
    let last : get_or (drop at s) (r.len - 1) 0 ≡ get_or s (at + r.len - 1) 0 = get_or-drop at s (r.len - 1) 0 ∙ ap (λ n. get_or s n 0) (omega arith) in
    let next : at + r.len - 1 + 1 ≡ at + r.len = omega arith in
    record {
      is = text_by t rcdata (drop at s) ∙ rw found.is (ap (taken (points (points_list r.points))) (drop-drop r.len at s));
      inside = record {};
      boundary = subst (λ n. IsCharBoundary s n) next (IsCharBoundary-after_ascii s (at + r.len - 1) u (omega arith) (subst (λ c. c < 128) last found.ascii));
    }

piece_long : (s : List ℕ) (from to : ℕ) → from ≤ to → to ≤ length s → length (slice_range s from to) ≡ to - from
piece_long s from to low high = simp (length-take, length-drop) (omega arith)

end_boundary : (t : List Entry) (rcdata : Bool) (s : List ℕ) (from to : ℕ) → IsPlainTo t rcdata s from to → IsCharBoundary s to
end_boundary t rcdata s from to p = elim (cases_lt to (length s)) [
  | inl h ↦ IsCharBoundary-before_ascii s to h (p.ascii h)
  | inr h ↦ let inside : to ≤ length s = p.inside in let same : length s ≡ to = omega arith in subst (λ n. IsCharBoundary s n) same (IsCharBoundary-end s)
]

-- where none begins
pub reads_slice : (t : List Entry) (rcdata : Bool) (s : List ℕ) (at to : ℕ) → IsCharBoundary s at → reference_here t (drop at s) ≡ None → IsPlainTo t rcdata s at to
    → Reads (read_text t rcdata (drop at s)) s (tokens.Slice at to) to
reads_slice t rcdata s at to starts none p =
    let ends : IsCharBoundary s to = end_boundary t rcdata s at to p in
    let there : drop (to - at) (drop at s) ≡ drop to s = drop-drop (to - at) at s ∙ ap (λ m. drop m s) (omega (arith, p.forward)) in
    let after : drop (length (plain_front t rcdata (drop at s))) (drop at s) ≡ drop to s =
    ap (λ x. drop (length x) (drop at s)) p.is ∙ ap (λ n. drop n (drop at s)) (piece_long s at to p.forward p.inside) ∙ there in
    record {
      is = text_by t rcdata (drop at s) ∙ rw none (ap₂ (λ x y. taken (slice x) y) p.is after);
      inside = record { ordered = p.forward; from_boundary = starts; to_boundary = ends };
      boundary = ends;
    }
