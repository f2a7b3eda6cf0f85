-- The whitespace of one text: the prefix that stays, and the runs after it.
use Rattle.std.proofs.Common.{◌≡◌, ℕ, zero, suc, ◌+◌, ◌-◌, ◌<◌, ◌≤◌, nat_lt, Bool, true, false, not, ◌&&◌, ◌||◌, ◌==◌, List, [], ◌∷◌, ◌++◌, length, take, drop, get_or, IsUtf8, IsCharBoundary, if◌then◌else◌, sym, ap, ◌∙◌, refl, inl, inr, arith, subst, append_assoc, length-take, length-drop}
use Rattle.std.proofs.lemmas.Bool.{cases_lt, or_parts}
use Rattle.std.proofs.lemmas.List.{drop_more, get_or-drop, get_or-take, take_more}
use Rattle.std.proofs.lemmas.Str.{IsCharBoundary-after_ascii, IsCharBoundary-before_ascii, IsCharBoundary-end}
use Rattle.hm_base.specs.Bytes.{is_space}
use Rattle.hm_options.specs.Fronts.{AreSteady, IsSpacedFront, IsSteady, changes}
use Rattle.hm_options.specs.Space.{spaced}
use Rattle.hm_options.proofs.Runs.{not_space}
use Rattle.hm_options.specs.declared.spaces.SpacedFront.{SpacedFront}

space_ascii : (c : ℕ) → is_space c ≡ true → c < 128
space_ascii c h = elim (cases_lt c 128) [
  | inl low ↦ low
  | inr high ↦
      let other : is_space c ≡ false = not_space c high in
      absurd (cc)
]

-- the places of a text around a byte of whitespace
pub before_space : (s : List ℕ) (i : ℕ) → i < length s → is_space (get_or s i 0) ≡ true → IsCharBoundary s i
before_space s i within space = IsCharBoundary-before_ascii s i within (space_ascii (get_or s i 0) space)

pub after_one : (s : List ℕ) (i : ℕ) → IsUtf8 s → i < length s → is_space (get_or s i 0) ≡ true → IsCharBoundary s (i + 1)
after_one s i utf8 within space = IsCharBoundary-after_ascii s i utf8 within (space_ascii (get_or s i 0) space)

pub front_boundary : (s : List ℕ) (front : SpacedFront) → IsSpacedFront s front → IsCharBoundary s front.to
front_boundary s front h = elim (cases_lt front.to (length s)) [
  | inl inside ↦ before_space s front.to inside (h.space inside)
  | inr past ↦ let end : length s ≡ front.to = omega (arith, h.inside) in subst (IsCharBoundary s) end (IsCharBoundary-end s)
]

-- whitespace that follows on whitespace, one byte less
again_by : (b : Bool) (c : ℕ) (s : List ℕ) → b ≡ true → (if b then spaced true s else c ∷ spaced false s) ≡ spaced true s
again_by b c s h = rw h refl

pub skip_more : (s : List ℕ) (i : ℕ) → i < length s → is_space (get_or s i 0) ≡ true → spaced true s ≡ spaced true (drop i s) → spaced true s ≡ spaced true (drop (i + 1) s)
skip_more s i within space before = before ∙ ap (spaced true) (drop_more s i 0 within) ∙ again_by (is_space (get_or s i 0)) (get_or s i 0) (drop (i + 1) s) space

-- ---- Bytes that don't change

stays_by : (b after : Bool) (c : ℕ) (s : List ℕ) → (b && (after || not (c == 32))) ≡ false → (if b then (if after then spaced true s else 32 ∷ spaced true s) else c ∷ spaced false s) ≡ c ∷ spaced b s
stays_by false after c s h = refl
stays_by true true c s h = absurd (cc)
stays_by true false c s h = let is : c ≡ 32 = grind arith in ap (λ x. x ∷ spaced true s) (sym is)

-- one byte more that doesn't change
one_stays : (after : Bool) (c : ℕ) (s : List ℕ) → changes after c ≡ false → spaced after (c ∷ s) ≡ c ∷ spaced (is_space c) s
one_stays after c s h = stays_by (is_space c) after c s h

pub front_more : (s : List ℕ) (after : Bool) (to : ℕ) → to < length s → changes after (get_or s to 0) ≡ false
    → spaced false s ≡ take to s ++ spaced after (drop to s) → spaced false s ≡ take (to + 1) s ++ spaced (is_space (get_or s to 0)) (drop (to + 1) s)
front_more s after to within stays before =
    let c : ℕ = get_or s to 0 in
    let next : spaced after (drop to s) ≡ c ∷ spaced (is_space c) (drop (to + 1) s) = ap (spaced after) (drop_more s to 0 within) ∙ one_stays after c (drop (to + 1) s) stays in
    before ∙ ap (λ t. take to s ++ t) next ∙ sym (append_assoc (take to s) (c ∷ []) (spaced (is_space c) (drop (to + 1) s))) ∙ ap (λ t. t ++ spaced (is_space c) (drop (to + 1) s)) (sym (take_more s to 0 within))

-- the prefix up to a place after the first byte
steady_front : (s : List ℕ) (n : ℕ) → suc n ≤ length s → changes false (get_or s 0 0) ≡ false → IsSteady s 1 (suc n) → spaced false s ≡ take (suc n) s ++ spaced (is_space (get_or s n 0)) (drop (suc n) s)
steady_front s zero within first steady = front_more s false 0 (omega (arith, within)) first refl
steady_front s (suc n) within first steady =
    let before = steady_front s n (omega (arith, within)) first (λ k low high. steady k low (omega (arith, high))) in
    let on : suc n + 1 ≡ suc (suc n) = omega arith in
    let same : suc n - 1 ≡ n = omega arith in
    let stays : changes (is_space (get_or s n 0)) (get_or s (suc n) 0) ≡ false = subst (λ j. changes (is_space (get_or s j 0)) (get_or s (suc n) 0) ≡ false) same (steady (suc n) (omega arith) (omega arith)) in
    subst (λ m. spaced false s ≡ take m s ++ spaced (is_space (get_or s (suc n) 0)) (drop m s)) on (front_more s (is_space (get_or s n 0)) (suc n) (omega (arith, within)) stays before)

-- `width` more bytes
pub steady_more : (s : List ℕ) (at width end : ℕ) → end + 1 ≡ at + width → 0 < at → at + width ≤ length s → IsSteady s 1 at
    → AreSteady (take (end - (at - 1)) (drop (at - 1) s)) (take (at + width - at) (drop at s)) → IsSteady s 1 (at + width)
steady_more s at width end before some inside h are k low high = by_test (nat_lt k at) refl
  where
    by_test : (b : Bool) → nat_lt k at ≡ b → changes (is_space (get_or s (k - 1) 0)) (get_or s k 0) ≡ false
    by_test true e = h k low (grind arith)
    by_test false e =
        let after : at ≤ k = grind arith in
        let here : List ℕ = take (at + width - at) (drop at s) in
        let earlier : List ℕ = take (end - (at - 1)) (drop (at - 1) s) in
        let short : k - at < at + width - at = omega arith in
        let within : k - at < end - (at - 1) = omega arith in
        let there : k - at < length here = omega (arith, length-take (at + width - at) (drop at s), length-drop at s) in
        let place : at + (k - at) ≡ k = omega arith in
        let front : at - 1 + (k - at) ≡ k - 1 = omega arith in
        let this : get_or here (k - at) 0 ≡ get_or s k 0 = get_or-take (at + width - at) (drop at s) (k - at) 0 short ∙ get_or-drop at s (k - at) 0 ∙ ap (λ j. get_or s j 0) place in
        let one : get_or earlier (k - at) 0 ≡ get_or s (k - 1) 0 = get_or-take (end - (at - 1)) (drop (at - 1) s) (k - at) 0 within ∙ get_or-drop (at - 1) s (k - at) 0 ∙ ap (λ j. get_or s j 0) front in
        ap (λ x. changes (is_space x) (get_or s k 0)) (sym one) ∙ ap (λ y. changes (is_space (get_or earlier (k - at) 0)) y) (sym this) ∙ are (k - at) there

-- the same, up to a place that isn't the first
pub steady_to : (s : List ℕ) (to : ℕ) → 0 < to → to ≤ length s → changes false (get_or s 0 0) ≡ false → IsSteady s 1 to → spaced false s ≡ take to s ++ spaced (is_space (get_or s (to - 1) 0)) (drop to s)
steady_to s zero some within first steady = absurd (omega (arith, some))
steady_to s (suc n) some within first steady =
    let same : n ≡ suc n - 1 = omega arith in
    subst (λ j. spaced false s ≡ take (suc n) s ++ spaced (is_space (get_or s j 0)) (drop (suc n) s)) same (steady_front s n within first steady)

-- one byte more of those that were looked at
pub none_more : (f : ℕ → Bool) (found : Bool) (i : ℕ) → (found ≡ false → (k : ℕ) → k < i → f k ≡ false) → (found || f i) ≡ false → (k : ℕ) → k < i + 1 → f k ≡ false
none_more f found i before none k within = elim (cases_lt k i) [
  | inl low ↦ before (or_parts found (f i) none).0 k low
  | inr high ↦ let last : i ≡ k = omega (arith, within, high) in subst (λ j. f j ≡ false) last (or_parts found (f i) none).1
]
