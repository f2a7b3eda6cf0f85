-- Where runs end a text may be cut.
use Rattle.std.proofs.Common.{◌≡◌, ℕ, ◌<◌, ◌≤◌, Bool, true, false, cond, List, [], ◌∷◌, drop, get_or, refl, subst, arith}
use Rattle.std.specs.Str.{IsUtf8, IsCharBoundary}
use Rattle.std.proofs.lemmas.Str.{IsUtf8-drop, IsCharBoundary-after_ascii, IsCharBoundary-from_drop}
use Rattle.hm_base.proofs.LeadingSpace.{space_ascii}
use Rattle.hm_base.specs.Bytes.{rest_after, is_space}
use Rattle.hm_base.specs.RawText.{is_name_end}
use Rattle.hm_scan.specs.Tags.{is_name_byte, is_later_byte, is_unquoted_byte}
use Rattle.hm_refs.specs.Reads.{IsEndOf}
use Rattle.hm_scan.specs.TagPlaces.{is_gap_byte}

-- a run that only ASCII ends
high_ends : (p : ℕ → Bool) (s : List ℕ) (from to : ℕ) → ((c : ℕ) → 128 ≤ c → p c ≡ true) → IsEndOf p s from to → IsCharBoundary s to
high_ends p s from to high e = (e.inside, λ l h. let a = high (get_or s to 0) h in let b = e.stops l in absurd (cc))

utf8_after : (p : ℕ → Bool) (s : List ℕ) → ((c : ℕ) → p c ≡ true → c < 128) → IsUtf8 s → IsUtf8 (rest_after p s)
utf8_after p [] low u = u
utf8_after p (c ∷ s) low u = by_test (p c) refl (utf8_after p s low)
  where
    by_test : (b : Bool) → p c ≡ b → (IsUtf8 s → IsUtf8 (rest_after p s)) → IsUtf8 (cond b (rest_after p s) (c ∷ s))
    by_test true e more = more (IsUtf8-drop (c ∷ s) 1 u (IsCharBoundary-after_ascii (c ∷ s) 0 u (omega arith) (low c e)))
    by_test false e more = u

-- a run of ASCII
low_ends : (p : ℕ → Bool) (s : List ℕ) (from to : ℕ) → ((c : ℕ) → p c ≡ true → c < 128) → IsUtf8 s → IsCharBoundary s from → IsEndOf p s from to → IsCharBoundary s to
low_ends p s from to low u b e = IsCharBoundary-from_drop s to e.inside (subst IsUtf8 e.after (utf8_after p (drop from s) low (IsUtf8-drop s from u b)))

gap_low : (c : ℕ) → is_gap_byte c ≡ true → c < 128
unfolding is_gap_byte is_space
gap_low c h = grind arith

name_high : (c : ℕ) → 128 ≤ c → is_name_byte c ≡ true
unfolding is_name_byte is_name_end is_space
name_high c h = grind arith

later_high : (c : ℕ) → 128 ≤ c → is_later_byte c ≡ true
unfolding is_later_byte is_name_end is_space
later_high c h = grind arith

unquoted_high : (c : ℕ) → 128 ≤ c → is_unquoted_byte c ≡ true
unfolding is_unquoted_byte is_space
unquoted_high c h = grind arith

pub space_ends : (s : List ℕ) (from to : ℕ) → IsUtf8 s → IsCharBoundary s from → IsEndOf is_space s from to → IsCharBoundary s to
space_ends s from to u b e = low_ends is_space s from to space_ascii u b e

pub gap_ends : (s : List ℕ) (from to : ℕ) → IsUtf8 s → IsCharBoundary s from → IsEndOf is_gap_byte s from to → IsCharBoundary s to
gap_ends s from to u b e = low_ends is_gap_byte s from to gap_low u b e

pub name_ends : (s : List ℕ) (from to : ℕ) → IsEndOf is_name_byte s from to → IsCharBoundary s to
name_ends s from to e = high_ends is_name_byte s from to name_high e

pub later_ends : (s : List ℕ) (from to : ℕ) → IsEndOf is_later_byte s from to → IsCharBoundary s to
later_ends s from to e = high_ends is_later_byte s from to later_high e

pub unquoted_ends : (s : List ℕ) (from to : ℕ) → IsEndOf is_unquoted_byte s from to → IsCharBoundary s to
unquoted_ends s from to e = high_ends is_unquoted_byte s from to unquoted_high e
