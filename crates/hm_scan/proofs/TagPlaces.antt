-- Scans of raw text and of scripts: the place of the end tag.
use Rattle.std.proofs.Common.{◌≡◌, ℕ, zero, suc, ◌+◌, ◌-◌, ◌<◌, ◌≤◌, Bool, true, false, cond, ◌==◌, List, [], ◌∷◌, ◌++◌, length, drop, get_or, Option, Some, None, refl, ap, subst, ◌∙◌, inl, inr, arith, codes, add-zero, lit<, IsCharBoundary, length-drop}
use Rattle.std.proofs.lemmas.Bool.{cases_lt}
use Rattle.std.proofs.lemmas.List.{drop-drop}
use Rattle.std.proofs.lemmas.Str.{IsCharBoundary-before_ascii}
use Rattle.memchr.specs.Find.{OccursAt}
use Rattle.hm_base.specs.Bytes.{strip, strip_word}
use Rattle.hm_base.specs.RawText.{is_found_whole, begins_end_tag, place_from, raw_end}
use Rattle.hm_tree.specs.Tokens.{Reads}
use Rattle.hm_tree.specs.declared.tokens.Token.TheVariants as tokens
use Rattle.hm_scan.specs.Pieces.{slice_up_to}
use Rattle.hm_scan.specs.Found.{IsPlace}
use Rattle.hm_scan.proofs.Lowered.{AreSigns, eqb_lower}
use Rattle.hm_scan.proofs.Searches.{not_stripped}

-- the first place that passes
pub place_at : (passes : List ℕ → Bool) (i : ℕ) (s : List ℕ) (n : ℕ) → n < length s → ((k : ℕ) → k < n → passes (drop k s) ≡ false) → passes (drop n s) ≡ true → place_from passes i s ≡ Some (i + n)
place_at passes i [] n h none found = absurd (omega arith)
place_at passes i (c ∷ s) zero h none found = rw (found, add-zero) refl
place_at passes i (c ∷ s) (suc n) h none found =
    let passed : passes (c ∷ s) ≡ false = none 0 (omega arith) in
    let place : suc i + n ≡ i + suc n = omega arith in
    rw (passed, place_at passes (suc i) s n (omega arith) (λ k l. none (suc k) (omega arith)) found, place) refl

pub no_place : (passes : List ℕ → Bool) (i : ℕ) (s : List ℕ) → ((k : ℕ) → k < length s → passes (drop k s) ≡ false) → place_from passes i s ≡ None
no_place passes i [] none = refl
no_place passes i (c ∷ s) none =
    let passed : passes (c ∷ s) ≡ false = none 0 (omega arith) in
    rw (passed, no_place passes (suc i) s (λ k l. none (suc k) (omega arith))) refl

-- a word isn't there where its prefix, without letters, isn't
signs_missing : (m w s : List ℕ) → AreSigns m → strip m s ≡ None → strip_word (m ++ w) s ≡ None
signs_missing [] w s signs e = cc
signs_missing (c ∷ m) w [] signs e = refl
signs_missing (c ∷ m) w (d ∷ s) signs e = rw (eqb_lower c d signs.0) (
    elim (c == d) as (λ b. cond b (strip m s) None ≡ None → cond b (strip_word (m ++ w) s) None ≡ None)
    [ true ↦ λ f. signs_missing m w s signs.1 f | false ↦ λ f. refl ] e)

no_tag : (name s : List ℕ) → strip (codes "</") s ≡ None → begins_end_tag name s ≡ false
unfolding begins_end_tag
no_tag name s e = ap is_found_whole (signs_missing (codes "</") name s (lit< tt, (lit< tt, tt)) e)

abbrev pub NoTag : List ℕ → List ℕ → ℕ → ℕ → Type 0
NoTag name s from to = (k : ℕ) → from ≤ k → k < to → begins_end_tag name (drop k s) ≡ false

-- no end tag stands before the next `</`
pub none_before : (name s : List ℕ) (from at to : ℕ) → to ≤ length s → NoTag name s from at → ((j : ℕ) → j < to - at → OccursAt (drop at s) (codes "</") j → ⊥) → NoTag name s from to
none_before name s from at to inside none marks k low high = elim (cases_lt k at) [
  | inl h ↦ none k low h
  | inr h ↦
      let long : length (drop at s) ≡ length s - at = length-drop at s in
      let there : drop (k - at) (drop at s) ≡ drop k s = drop-drop (k - at) at s ∙ ap (λ m. drop m s) (omega arith) in
      no_tag name (drop k s) (rw there at (not_stripped (codes "</") (drop at s) (k - at) (omega arith) (marks (k - at) (omega arith))))
]

-- nor at it, where none is found
pub none_at : (name s : List ℕ) (from to : ℕ) → NoTag name s from to → begins_end_tag name (drop to s) ≡ false → NoTag name s from (to + 1)
none_at name s from to none here k low high = elim (cases_lt k to) [
  | inl h ↦ none k low h
  | inr h ↦ let same : to ≡ k = omega arith in subst (λ m. begins_end_tag name (drop m s) ≡ false) same here
]

pub tag_place : (name s : List ℕ) (from to : ℕ) → from ≤ to → to < length s → get_or s to 0 < 128 → NoTag name s from to → begins_end_tag name (drop to s) ≡ true → IsPlace s from (raw_end name (drop from s)) to
tag_place name s from to low high ascii none here =
    let long : length (drop from s) ≡ length s - from = length-drop from s in
    let there : drop (to - from) (drop from s) ≡ drop to s = drop-drop (to - from) from s ∙ ap (λ m. drop m s) (omega arith) in
    record {
      ordered = low;
      inside = high;
      ascii = ascii;
      is = place_at (begins_end_tag name) 0 (drop from s) (to - from) (omega arith) (λ k l. rw (drop-drop k from s) (none (from + k) (omega arith) (omega arith))) (rw there here) ∙ ap Some (omega arith);
    }

pub tag_missing : (name s : List ℕ) (from : ℕ) → NoTag name s from (length s) → raw_end name (drop from s) ≡ None
tag_missing name s from none =
    let long : length (drop from s) ≡ length s - from = length-drop from s in
    no_place (begins_end_tag name) 0 (drop from s) (λ k l. rw (drop-drop k from s) (none (from + k) (omega arith) (omega arith)))

-- the text up to a place that is found
pub slice_to : (s : List ℕ) (from to : ℕ) (found : Option ℕ) → IsCharBoundary s from → IsPlace s from found to → Reads (slice_up_to (drop from s) found) s (tokens.Slice from to) to
slice_to s from to found starts place =
    let cut : IsCharBoundary s to = IsCharBoundary-before_ascii s to place.inside place.ascii in
    let there : drop (to - from) (drop from s) ≡ drop to s = drop-drop (to - from) from s ∙ ap (λ m. drop m s) (omega (arith, place.ordered)) in
    record {
      is = rw (place.is, there) refl;
      inside = record { ordered = place.ordered; from_boundary = starts; to_boundary = cut };
      boundary = cut;
    }
