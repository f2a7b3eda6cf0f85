-- Runs of bytes that aren't escaped.
use Rattle.std.proofs.Common.{◌≡◌, ℕ, zero, suc, ◌+◌, ◌-◌, ◌<◌, ◌≤◌, nat_lt, Bool, true, false, List, [], ◌∷◌, length, take, drop, get_or, refl, sym, ap, ◌∙◌, arith, length-drop, length-take}
use Rattle.std.proofs.lemmas.Bool.{or_parts}
use Rattle.std.proofs.lemmas.List.{get_or-drop, get_or-take}
use Rattle.hm_base.specs.Bytes.{some_passes}
use Rattle.hm_dump.specs.Runs.{is_escaped, IsPlainRun}

none_passes : (p : ℕ → Bool) (s : List ℕ) → some_passes p s ≡ false → (k : ℕ) → k < length s → p (get_or s k 0) ≡ false
none_passes p [] none k within = absurd (omega (arith, within))
none_passes p (c ∷ s) none zero within = (or_parts (p c) (some_passes p s) none).0
none_passes p (c ∷ s) none (suc k) within = none_passes p s (or_parts (p c) (some_passes p s) none).1 k (omega (arith, within))

-- `width` more bytes, none of which is escaped
pub plain_more : (s : List ℕ) (from at width : ℕ) → IsPlainRun s from at → at + width ≤ length s → some_passes is_escaped (take (at + width - at) (drop at s)) ≡ false → IsPlainRun s from (at + width)
plain_more s from at width h inside none k low high = by_test (nat_lt k at) refl
  where
    by_test : (b : Bool) → nat_lt k at ≡ b → is_escaped (get_or s k 0) ≡ false
    by_test true e = h k low (grind arith)
    by_test false e =
        let after : at ≤ k = grind arith in
        let part = drop at s in
        let short : k - at < at + width - at = omega arith in
        let there : k - at < length (take (at + width - at) part) = omega (arith, length-take (at + width - at) part, length-drop at s) in
        let place : at + (k - at) ≡ k = omega arith in
        let same : get_or (take (at + width - at) part) (k - at) 0 ≡ get_or s k 0 = get_or-take (at + width - at) part (k - at) 0 short ∙ get_or-drop at s (k - at) 0 ∙ ap (λ j. get_or s j 0) place in
        ap is_escaped (sym same) ∙ none_passes is_escaped (take (at + width - at) part) none (k - at) there
