-- Pieces of an ordinary text that may go on: where they end.
use Rattle.std.proofs.Common.{◌≡◌, ℕ, zero, suc, ◌+◌, ◌-◌, ◌<◌, ◌≤◌, Bool, true, false, not, ◌==◌, List, [], ◌∷◌, length, take, drop, get_or, slice_range, Option, Some, None, is_some, MatchOption, refl, sym, ap, ap₂, subst, ◌∙◌, inl, inr, arith, length-drop, length-take}
use Rattle.std.specs.Str.{IsUtf8, IsCharBoundary}
use Rattle.std.proofs.lemmas.Bool.{cases_lt}
use Rattle.std.proofs.lemmas.Bool.Decides.{Decides-eqb}
use Rattle.std.proofs.lemmas.List.{drop-drop, get_or-drop}
use Rattle.std.proofs.lemmas.Str.{IsCharBoundary-after_ascii, IsCharBoundary-before_ascii, IsCharBoundary-end}
use Rattle.hm_refs.specs.Names.{Entry}
use Rattle.hm_refs.specs.Reads.{IsReadReference}
use Rattle.hm_refs.specs.References as refs
use Rattle.hm_refs.specs.References.{reference}
use Rattle.hm_refs.specs.declared.scan.Reference.{Reference}
use Rattle.hm_refs.proofs.RunEnds.{rest_cons}
use Rattle.hm_scan.specs.Texts.{begins_markup, reference_in}
use Rattle.hm_scan.specs.TextPlaces.{is_sign, reference_here}
use Rattle.hm_scan.proofs.Ends.{here_amp, here_other}
use Rattle.hm_lexer.specs.Ready.{piece_by, plain_piece, text_part}
use Rattle.hm_tree.specs.Tokens.{Reads, taken, slice, points}
use Rattle.hm_tree.specs.declared.tokens.Token.TheVariants as tokens
use Rattle.hm_refs.specs.Tables.{points_list}
use Rattle.hm_lexer.specs.Parts.{IsPieceTo, is_told_here, stays_plain}

-- ---- one byte

-- where it is told that no markup begins, a reference alone ends a plain text
stays_is : (t : List Entry) (s : List ℕ) → 0 < length s → is_told_here s ≡ true → begins_markup s ≡ false → stays_plain t s ≡ not (is_some (reference_here t s))
stays_is t [] some told none = absurd (omega arith)
stays_is t (c ∷ s) some told none = rw (told, none) refl

is_other : (c : ℕ) → (c ≡ 38 → ⊥) → (c == 38) ≡ false
is_other c h = by (c == 38) refl
  where
    by : (b : Bool) → (c == 38) ≡ b → b ≡ false
    by true e = absurd (h ((Decides-eqb c 38).0 e))
    by false e = refl

pub stays_other : (t : List Entry) (s : List ℕ) → 0 < length s → is_told_here s ≡ true → begins_markup s ≡ false → (get_or s 0 0 ≡ 38 → ⊥) → not (get_or s 0 0 == 38) ≡ stays_plain t s
stays_other t s some told none never = ap not (is_other (get_or s 0 0) never) ∙ sym (stays_is t s some told none ∙ ap (λ (o : Option refs.Reference). not (is_some o)) (here_other t s never))

abbrev IsRead : List Entry → List ℕ → Option Reference → Type 0
IsRead t s found = MatchOption found (reference t false s ≡ None) (IsReadReference (reference t false s) s)

pub stays_amp : (t : List Entry) (s : List ℕ) (found : Option Reference) (b : Bool) → 0 < length s → is_told_here s ≡ true → begins_markup s ≡ false → get_or s 0 0 ≡ 38 → IsRead t s found → is_some found ≡ not b → b ≡ stays_plain t s
stays_amp t s None b some told none amp read e =
    let is_none = here_amp t s some amp ∙ read in
    neg b e ∙ sym (stays_is t s some told none ∙ ap (λ (o : Option refs.Reference). not (is_some o)) is_none)
  where
    neg : (b : Bool) → false ≡ not b → b ≡ true
    neg true e = refl
    neg false e = e
stays_amp t s (Some r) b some told none amp read e =
    let is_there = here_amp t s some amp ∙ read.is in
    neg b e ∙ sym (stays_is t s some told none ∙ ap (λ (o : Option refs.Reference). not (is_some o)) is_there)
  where
    neg : (b : Bool) → true ≡ not b → b ≡ false
    neg true e = e
    neg false e = refl

-- ---- many bytes

-- all bytes from one place up to another stay
abbrev pub AllStay : List Entry → List ℕ → ℕ → ℕ → Type 0
AllStay t s from to = (k : ℕ) → from ≤ k → k < to → stays_plain t (drop k s) ≡ true

piece_front : (t : List Entry) (s : List ℕ) (n : ℕ) → n ≤ length s → ((k : ℕ) → k < n → stays_plain t (drop k s) ≡ true) → (n < length s → stays_plain t (drop n s) ≡ false) → plain_piece t s ≡ take n s
piece_front t [] zero h stay stop = refl
piece_front t [] (suc n) h stay stop = absurd (omega arith)
piece_front t (c ∷ s) zero h stay stop = rw (stop (omega arith)) refl
piece_front t (c ∷ s) (suc n) h stay stop =
    let first : stays_plain t (c ∷ s) ≡ true = stay 0 (omega arith) in
    rw first (ap (λ r. c ∷ r) (piece_front t s n (omega arith) (λ k l. stay (suc k) (omega arith)) (λ l. stop (omega arith))))

-- a byte that is no sign stays
no_sign : (t : List Entry) (c : ℕ) (s : List ℕ) → (is_sign false c ≡ true → ⊥) → stays_plain t (c ∷ s) ≡ true
unfolding reference_in begins_markup
no_sign t c s h = by_bytes (c == 60) refl (c == 38) refl
  where
    by_bytes : (a : Bool) → (c == 60) ≡ a → (b : Bool) → (c == 38) ≡ b → stays_plain t (c ∷ s) ≡ true
    by_bytes true e b f = absurd (h (rw e refl))
    by_bytes false e true f = absurd (h (rw (e, f) refl))
    by_bytes false e false f = rw (e, f) refl

no_sign_at : (t : List Entry) (s : List ℕ) (n : ℕ) → n < length s → (is_sign false (get_or s n 0) ≡ true → ⊥) → stays_plain t (drop n s) ≡ true
no_sign_at t s n h never = ap (stays_plain t) (rest_cons s n h) ∙ no_sign t (get_or s n 0) (drop (n + 1) s) never

-- so do those before the next sign
pub stay_before : (t : List Entry) (s : List ℕ) (from at to : ℕ) → to ≤ length s → AllStay t s from at → ((j : ℕ) → j < to - at → is_sign false (get_or (drop at s) j 0) ≡ true → ⊥) → AllStay t s from to
stay_before t s from at to inside stay signs k low high = elim (cases_lt k at) [
  | inl h ↦ stay k low h
  | inr h ↦
      let there : get_or (drop at s) (k - at) 0 ≡ get_or s k 0 = get_or-drop at s (k - at) 0 ∙ ap (λ m. get_or s m 0) (omega arith) in
      no_sign_at t s k (omega arith) (rw there at (signs (k - at) (omega arith)))
]

-- and the sign, where it stays
pub stay_at : (t : List Entry) (s : List ℕ) (from to : ℕ) → AllStay t s from to → stays_plain t (drop to s) ≡ true → AllStay t s from (to + 1)
stay_at t s from to stay here k low high = elim (cases_lt k to) [
  | inl h ↦ stay k low h
  | inr h ↦ let same : to ≡ k = omega arith in subst (λ m. stays_plain t (drop m s) ≡ true) same here
]

pub piece_to : (t : List Entry) (s : List ℕ) (from to : ℕ) → from ≤ to → to ≤ length s → AllStay t s from to → (to < length s → stays_plain t (drop to s) ≡ false) → (to < length s → get_or s to 0 < 128) → IsPieceTo t s from to
piece_to t s from to low high stay stop ascii =
    let long : length (drop from s) ≡ length s - from = length-drop from s in
    let there : drop (to - from) (drop from s) ≡ drop to s = drop-drop (to - from) from s ∙ ap (λ m. drop m s) (omega arith) in
    record {
      forward = low;
      inside = high;
      is = piece_front t (drop from s) (to - from) (omega arith) (λ k l. rw (drop-drop k from s) (stay (from + k) (omega arith) (omega arith))) (λ l. rw there (stop (omega arith)));
      ascii = ascii;
    }

-- ---- as tokens

part_by : (t : List Entry) (c : ℕ) (s : List ℕ) → text_part t (c ∷ s) ≡ piece_by (reference_here t (c ∷ s)) t c s
part_by t c s = refl

-- where a reference begins
pub part_points : (t : List Entry) (s : List ℕ) (at : ℕ) (r : Reference) → IsUtf8 s → at < length s → IsReadReference (reference_here t (drop at s)) (drop at s) r
    → Reads (text_part t (drop at s)) s (tokens.Points r.points) (at + r.len)
part_points t s at r u h found =
    let some : 0 < r.len = found.some in
    let short : r.len ≤ length (drop at s) = found.inside in
    let long : length (drop at s) ≡ length s - at = length-drop at s in
    let last : get_or (drop at s) (r.len - 1) 0 ≡ get_or s (at + r.len - 1) 0 = get_or-drop at s (r.len - 1) 0 ∙ ap (λ n. get_or s n 0) (omega arith) in
    let next : at + r.len - 1 + 1 ≡ at + r.len = omega arith in
    record {
      is = by (drop at s) (omega arith) found.is ∙ ap (taken (points (points_list r.points))) (drop-drop r.len at s);
      inside = record {};
      boundary = subst (λ n. IsCharBoundary s n) next (IsCharBoundary-after_ascii s (at + r.len - 1) u (omega arith) (subst (λ c. c < 128) last found.ascii));
    }
  where
    by : (x : List ℕ) → 0 < length x → reference_here t x ≡ Some (record { points = points_list r.points; len = r.len }) → text_part t x ≡ taken (points (points_list r.points)) (drop r.len x)
    by [] l e = absurd (omega arith)
    by (c ∷ x) l e = ap (λ o. piece_by o t c x) e

piece_boundary : (t : List Entry) (s : List ℕ) (from to : ℕ) → IsPieceTo t s from to → IsCharBoundary s to
piece_boundary t s from to p = elim (cases_lt to (length s)) [
  | inl h ↦ IsCharBoundary-before_ascii s to h (p.ascii h)
  | inr h ↦ let inside : to ≤ length s = p.inside in let same : length s ≡ to = omega arith in subst (λ n. IsCharBoundary s n) same (IsCharBoundary-end s)
]

-- where none begins
pub part_slice : (t : List Entry) (s : List ℕ) (at to : ℕ) → at < length s → IsCharBoundary s at → reference_here t (drop at s) ≡ None → IsPieceTo t s (at + 1) to
    → Reads (text_part t (drop at s)) s (tokens.Slice at to) to
part_slice t s at to h starts none p =
    let ends : IsCharBoundary s to = piece_boundary t s (at + 1) to p in
    let c = get_or s at 0 in
    let first : drop at s ≡ get_or s at 0 ∷ drop (at + 1) s = rest_cons s at h in
    let ahead : at + 1 ≤ to = p.forward in
    let inside : to ≤ length s = p.inside in
    let long : length (plain_piece t (drop (at + 1) s)) ≡ to - (at + 1) = ap length p.is ∙ simp (length-take, length-drop) (omega arith) in
    let after : drop (length (plain_piece t (drop (at + 1) s))) (drop (at + 1) s) ≡ drop to s = ap (λ n. drop n (drop (at + 1) s)) long ∙ drop-drop (to - (at + 1)) (at + 1) s ∙ ap (λ m. drop m s) (omega arith) in
    let size : to - at ≡ suc (to - (at + 1)) = omega arith in
    let front : get_or s at 0 ∷ plain_piece t (drop (at + 1) s) ≡ slice_range s at to = ap (λ l. get_or s at 0 ∷ l) p.is ∙ sym (ap₂ take size first) in
    record {
      is = ap (text_part t) first ∙ ap (λ o. piece_by o t (get_or s at 0) (drop (at + 1) s)) (ap (reference_here t) (sym first) ∙ none) ∙ ap₂ (λ x y. taken (slice x) y) front after;
      inside = record { ordered = omega arith; from_boundary = starts; to_boundary = ends };
      boundary = ends;
    }
