-- What a text becomes has no byte but its own and SPACE, and is UTF-8.
use Rattle.std.proofs.Common.{◌≡◌, ℕ, zero, suc, ◌+◌, Bool, true, false, ◌&&◌, ◌||◌, ◌==◌, ◌⊎◌, inl, inr, List, [], ◌∷◌, ◌++◌, length, take, get_or, chars, encode_utf8, encode_utf8_all, IsUtf8, if◌then◌else◌, ap, ◌∙◌, refl, arith}
use Rattle.std.proofs.Math.Utf8.{scalar, scalars}
use Rattle.std.proofs.lemmas.Bool.{and_parts, and_from, eqb-true}
use Rattle.std.proofs.lemmas.Str.{encode_ascii, scalars-chars, IsUtf8-take, IsUtf8-past_char, IsCharBoundary-before_ascii}
use Rattle.hm_base.specs.Bytes.{is_space}
use Rattle.hm_base.specs.Forms.{has_byte, is_blank}
use Rattle.hm_options.specs.Space.{spaced, without_leading, without_trailing}
use Rattle.hm_options.proofs.Runs.{spaced_chars, spaced_text}

pub record Better (s t : List ℕ) : Type 0 where
  pub no_zero : has_byte 0 s ≡ false → has_byte 0 t ≡ false
  pub blank : is_blank s ≡ true → is_blank t ≡ true
  pub utf8 : IsUtf8 s → IsUtf8 t

pub better_self : (s : List ℕ) → Better s s
better_self s = record { no_zero = λ h. h; blank = λ h. h; utf8 = λ h. h }

pub better_twice : (s t u : List ℕ) → Better s t → Better t u → Better s u
better_twice s t u a b = record { no_zero = λ h. b.no_zero (a.no_zero h); blank = λ h. b.blank (a.blank h); utf8 = λ h. b.utf8 (a.utf8 h) }

or_parts : (a b : Bool) → a || b ≡ false → (a ≡ false) × (b ≡ false)
or_parts true b h = absurd (cc)
or_parts false b h = (refl, h)

blank_space : is_space 32 ≡ true
unfolding is_space
blank_space = refl

module _ (c : ℕ) (s : List ℕ) where
  zero_by : (b after : Bool) → ((after : Bool) → has_byte 0 (spaced after s) ≡ false) → (c == 0) ≡ false → has_byte 0 (if b then (if after then spaced true s else 32 ∷ spaced true s) else c ∷ spaced false s) ≡ false
  zero_by true true more h = more true
  zero_by true false more h = more true
  zero_by false after more h = rw h (more false)

  blank_by : (after : Bool) → ((after : Bool) → is_blank (spaced after s) ≡ true) → is_blank (if after then spaced true s else 32 ∷ spaced true s) ≡ true
  blank_by true more = more true
  blank_by false more = rw blank_space (more true)

spaced_zero : (after : Bool) (s : List ℕ) → has_byte 0 s ≡ false → has_byte 0 (spaced after s) ≡ false
spaced_zero after [] h = refl
spaced_zero after (c ∷ s) h =
    let parts = or_parts (c == 0) (has_byte 0 s) h in
    zero_by c s (is_space c) after (λ a. spaced_zero a s parts.1) parts.0

spaced_blank : (after : Bool) (s : List ℕ) → is_blank s ≡ true → is_blank (spaced after s) ≡ true
spaced_blank after [] h = refl
spaced_blank after (c ∷ s) h =
    let parts = and_parts (is_space c) (is_blank s) h in
    rw (parts.0) (blank_by c s after (λ a. spaced_blank a s parts.1))

-- the code points of a text whose runs are single spaces
abbrev spaced_points : Bool → List ℕ → List ℕ
spaced_points after [] = []
spaced_points after (c ∷ cs) =
    if is_space c then (if after then spaced_points true cs else 32 ∷ spaced_points true cs)
    else c ∷ spaced_points false cs

module _ (c : ℕ) (cs : List ℕ) where
  encoded_by : (b after : Bool) → ((after : Bool) → encode_utf8_all (spaced_points after cs) ≡ spaced_chars after cs)
      → encode_utf8_all (if b then (if after then spaced_points true cs else 32 ∷ spaced_points true cs) else c ∷ spaced_points false cs) ≡ (if b then (if after then spaced_chars true cs else 32 ∷ spaced_chars true cs) else encode_utf8 c ++ spaced_chars false cs)
  encoded_by true true more = more true
  encoded_by true false more = rw (encode_ascii 32 (omega arith)) (ap (λ s. 32 ∷ s) (more true))
  encoded_by false after more = ap (λ s. encode_utf8 c ++ s) (more false)

  scalars_by : (b after : Bool) → ((after : Bool) → scalars (spaced_points after cs) ≡ true) → ((d : ℕ) (ds : List ℕ) → d ≡ c → scalars ds ≡ true → scalars (d ∷ ds) ≡ true) → scalars (if b then (if after then spaced_points true cs else 32 ∷ spaced_points true cs) else c ∷ spaced_points false cs) ≡ true
  scalars_by true true more one = more true
  scalars_by true false more one = more true
  scalars_by false after more one = one c (spaced_points false cs) refl (more false)

encoded : (after : Bool) (cs : List ℕ) → encode_utf8_all (spaced_points after cs) ≡ spaced_chars after cs
encoded after [] = refl
encoded after (c ∷ cs) = encoded_by c cs (is_space c) after (λ a. encoded a cs)

all_scalars : (after : Bool) (cs : List ℕ) → scalars cs ≡ true → scalars (spaced_points after cs) ≡ true
all_scalars after [] h = refl
all_scalars after (c ∷ cs) h =
    let parts = and_parts (scalar c) (scalars cs) h in
    scalars_by c cs (is_space c) after (λ a. all_scalars a cs parts.1) (λ d ds e k. and_from (scalar d) (scalars ds) (rw e parts.0) k)

spaced_utf8 : (s : List ℕ) → IsUtf8 s → IsUtf8 (spaced false s)
spaced_utf8 s utf8 = (spaced_points false (chars s), (all_scalars false (chars s) (scalars-chars s utf8), encoded false (chars s) ∙ spaced_text s utf8))

pub spaced_better : (s : List ℕ) → Better s (spaced false s)
spaced_better s = record { no_zero = spaced_zero false s; blank = spaced_blank false s; utf8 = spaced_utf8 s }

tail_better : (c : ℕ) (s : List ℕ) → c ≡ 32 → Better (c ∷ s) s
tail_better c s is = record {
  no_zero = λ h. (or_parts (c == 0) (has_byte 0 s) h).1;
  blank = λ h. (and_parts (is_space c) (is_blank s) h).1;
  utf8 = λ u. IsUtf8-past_char (c ∷ s) s 32 u (rw (is, encode_ascii 32 (omega arith)) refl);
}

leading_by : (b : Bool) (c : ℕ) (s : List ℕ) → (b ≡ true → c ≡ 32) → Better (c ∷ s) (if b then s else c ∷ s)
leading_by true c s is = tail_better c s (is refl)
leading_by false c s is = better_self (c ∷ s)

pub leading_better : (edge : Bool) (s : List ℕ) → Better s (without_leading edge s)
leading_better edge [] = better_self []
leading_better edge (c ∷ s) = leading_by (edge && c == 32) c s (λ h. eqb-true c 32 ((and_parts edge (c == 32) h).1))

-- what is left of a text without the space at its end
Trailed : Bool → List ℕ → Type 0
Trailed edge s = (without_trailing edge s ≡ s) ⊎ ((n : ℕ) × (n + 1 ≡ length s) × (get_or s n 0 ≡ 32) × (without_trailing edge s ≡ take n s))

trailed_by : (b : Bool) (c : ℕ) → (b ≡ true → c ≡ 32) → ((if b then [] else c ∷ []) ≡ c ∷ []) ⊎ ((n : ℕ) × (n + 1 ≡ 1) × (get_or (c ∷ []) n 0 ≡ 32) × ((if b then [] else c ∷ []) ≡ take n (c ∷ [])))
trailed_by true c is = inr (0, refl, is refl, refl)
trailed_by false c is = inl refl

trailed_more : (edge : Bool) (c d : ℕ) (s : List ℕ) → Trailed edge (d ∷ s) → Trailed edge (c ∷ d ∷ s)
unfolding Trailed
trailed_more edge c d s (inl is) = inl (ap (λ t. c ∷ t) is)
trailed_more edge c d s (inr (n, last, space, is)) = inr (suc n, omega (arith, last), space, ap (λ t. c ∷ t) is)

trailed : (edge : Bool) (s : List ℕ) → Trailed edge s
unfolding Trailed
trailed edge [] = inl refl
trailed edge (c ∷ []) = trailed_by (edge && c == 32) c (λ h. eqb-true c 32 ((and_parts edge (c == 32) h).1))
trailed edge (c ∷ d ∷ s) = trailed_more edge c d s (trailed edge (d ∷ s))

take_zero : (s : List ℕ) (n : ℕ) → has_byte 0 s ≡ false → has_byte 0 (take n s) ≡ false
take_zero s zero h = refl
take_zero [] (suc n) h = refl
take_zero (c ∷ s) (suc n) h =
    let parts = or_parts (c == 0) (has_byte 0 s) h in
    rw (parts.0) (take_zero s n parts.1)

take_blank : (s : List ℕ) (n : ℕ) → is_blank s ≡ true → is_blank (take n s) ≡ true
take_blank s zero h = refl
take_blank [] (suc n) h = refl
take_blank (c ∷ s) (suc n) h =
    let parts = and_parts (is_space c) (is_blank s) h in
    rw (parts.0) (take_blank s n parts.1)

trailing_by : (edge : Bool) (s : List ℕ) → Trailed edge s → Better s (without_trailing edge s)
unfolding Trailed
trailing_by edge s (inl is) = rw is (better_self s)
trailing_by edge s (inr (n, last, space, is)) = rw is (record {
  no_zero = take_zero s n;
  blank = take_blank s n;
  utf8 = λ u. IsUtf8-take s n u (IsCharBoundary-before_ascii s n (omega (arith, last)) (omega (arith, space)));
})

pub trailing_better : (edge : Bool) (s : List ℕ) → Better s (without_trailing edge s)
trailing_better edge s = trailing_by edge s (trailed edge s)
