-- Gaps: what a needed gap gives, and which other needs a gap meets.
use Rattle.std.proofs.Common.{◌≡◌, ℕ, Bool, true, false, not, ◌&&◌, List, [], ◌∷◌, ◌++◌, refl}
use Rattle.std.proofs.lemmas.Bool.{and_parts}
use Rattle.hm_base.specs.Bytes.{head_is, is_null, is_space}
use Rattle.hm_base.specs.Forms.{is_blank}
use Rattle.hm_markup_spec.specs.Gaps.{is_gap}

pub gap_blank : (needed : Bool) (gap : List ℕ) → is_gap needed gap ≡ true → is_blank gap ≡ true
unfolding is_gap
gap_blank needed gap h = (and_parts (is_blank gap) (not (needed && is_null gap)) h).0

-- a gap that is needed begins with whitespace, whatever follows it
pub gap_front : (gap s : List ℕ) → is_gap true gap ≡ true → head_is is_space (gap ++ s) ≡ true
unfolding is_gap
gap_front [] s h = absurd (cc)
gap_front (c ∷ gap) s h = (and_parts (is_space c) (is_blank gap) (and_parts (is_blank (c ∷ gap)) true h).0).0

-- whitespace is a gap where none is needed
pub blank_gap : (gap : List ℕ) → is_blank gap ≡ true → is_gap false gap ≡ true
unfolding is_gap
blank_gap gap h = rw h refl

-- a gap also serves where less is needed
pub gap_serves : (needed less : Bool) (gap : List ℕ) → (less ≡ true → needed ≡ true) → is_gap needed gap ≡ true → is_gap less gap ≡ true
gap_serves needed false gap f h = blank_gap gap (gap_blank needed gap h)
gap_serves true true gap f h = h
gap_serves false true gap f h = let no : false ≡ true = f refl in absurd (cc)
