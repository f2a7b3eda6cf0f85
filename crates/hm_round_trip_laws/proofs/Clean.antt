-- Bytes that are UTF-8 without a zero byte.
use Rattle.std.proofs.Common.{◌≡◌, ℕ, ◌+◌, ◌<◌, ◌≤◌, ◌⊎◌, Bool, true, false, not, ◌&&◌, ◌==◌, nat_lt, List, [], ◌∷◌, ◌++◌, map, inl, inr, refl, ap, sym, subst, ◌∙◌, arith, append_assoc, encode_utf8_all}
use Rattle.std.specs.Str.{is_utf8}
use Rattle.std.proofs.lemmas.Bool.{and_parts, and_from, or_from, eqb-true}
use Rattle.std.proofs.lemmas.Str.{encode_ascii}
use lib.Utf8.{encode}
use Rattle.hm_base.specs.Bytes.{all_pass, lower, is_space}
use Rattle.hm_base.specs.Forms.{has_byte, is_blank}
use Rattle.hm_scan.proofs.Lowered.{lower_cases}
use Rattle.hm_token_laws.proofs.Bools.{or_parts}
use Rattle.hm_token_laws.proofs.Plain.{pass_both, utf8_both, utf8_before, utf8_from, utf8_after}
use Rattle.hm_token_laws.proofs.References.{is_ascii, low_ascii}
use Rattle.hm_token_laws.proofs.Values.{ascii_utf8}
use Rattle.hm_round_trip_laws.proofs.Encoded.{PassesHigh}
use Rattle.hm_round_trip_laws.proofs.Within.{pass_more}

unfoldable pub is_no_zero : ℕ → Bool
is_no_zero c = not (c == 0)

pub no_zero_high : PassesHigh is_no_zero
unfolding is_no_zero
no_zero_high d h = grind arith

pub record Clean (b : List ℕ) : Type 0 where
  pub bytes : all_pass is_no_zero b ≡ true
  pub utf8 : is_utf8 b ≡ true

pub clean_both : (xs ys : List ℕ) → Clean xs → Clean ys → Clean (xs ++ ys)
clean_both xs ys h i = record { bytes = pass_both is_no_zero xs ys h.bytes i.bytes; utf8 = utf8_both xs ys h.utf8 i.utf8 }

-- ---- has_byte and all_pass

pub passes_no_zero : (s : List ℕ) → has_byte 0 s ≡ false → all_pass is_no_zero s ≡ true
unfolding is_no_zero
passes_no_zero [] h = refl
passes_no_zero (c ∷ s) h = let both = or_parts (c == 0) (has_byte 0 s) h in rw (both.0, passes_no_zero s both.1) refl

pub has_no_byte : (p : ℕ → Bool) (d : ℕ) (s : List ℕ) → p d ≡ false → all_pass p s ≡ true → has_byte d s ≡ false
has_no_byte p d [] fails h = refl
has_no_byte p d (c ∷ s) fails h = let both = and_parts (p c) (all_pass p s) h in or_from (c == d) (has_byte d s) (by_test (c == d) refl both.0) (has_no_byte p d s fails both.1)
  where
    by_test : (b : Bool) → (c == d) ≡ b → p c ≡ true → b ≡ false
    by_test true e k = let no : p d ≡ true = subst (λ x. p x ≡ true) (eqb-true c d e) k in cc
    by_test false e k = refl

pub clean_text : (s : List ℕ) → has_byte 0 s ≡ false → is_utf8 s ≡ true → Clean s
clean_text s h u = record { bytes = passes_no_zero s h; utf8 = u }

-- code points whose bytes are none of zero
pub points_no_zero : (cs : List ℕ) → all_pass is_no_zero (encode_utf8_all cs) ≡ true → all_pass is_no_zero cs ≡ true
unfolding is_no_zero
points_no_zero [] h = refl
points_no_zero (c ∷ cs) h = by_test (c == 0) refl h (points_no_zero cs)
  where
    front : (xs ys : List ℕ) → all_pass (λ d. not (d == 0)) (xs ++ ys) ≡ true → all_pass (λ d. not (d == 0)) ys ≡ true
    front [] ys h = h
    front (x ∷ xs) ys h = front xs ys (and_parts (not (x == 0)) (all_pass (λ d. not (d == 0)) (xs ++ ys)) h).1

    by_test : (b : Bool) → (c == 0) ≡ b → all_pass (λ d. not (d == 0)) (encode c ++ encode_utf8_all cs) ≡ true → (all_pass (λ d. not (d == 0)) (encode_utf8_all cs) ≡ true → all_pass (λ d. not (d == 0)) cs ≡ true)
        → not b && all_pass (λ d. not (d == 0)) cs ≡ true
    by_test true e h more =
        let one : encode c ≡ 0 ∷ [] = ap encode (eqb-true c 0 e) ∙ encode_ascii 0 (omega arith) in
        let no = subst (λ x. all_pass (λ d. not (d == 0)) (x ++ encode_utf8_all cs) ≡ true) one h in
        absurd (cc)
    by_test false e h more = more (front (encode c) (encode_utf8_all cs) h)

-- ---- ASCII

-- ASCII other than zero
unfoldable pub is_plain : ℕ → Bool
is_plain c = nat_lt 0 c && nat_lt c 128

plain_no_zero : (c : ℕ) → is_plain c ≡ true → is_no_zero c ≡ true
unfolding is_plain is_no_zero
plain_no_zero c h = grind arith

plain_ascii : (c : ℕ) → is_plain c ≡ true → is_ascii c ≡ true
unfolding is_plain is_ascii
plain_ascii c h = grind arith

pub clean_ascii : (s : List ℕ) → all_pass is_plain s ≡ true → Clean s
clean_ascii s h = record { bytes = pass_more is_plain is_no_zero s plain_no_zero h; utf8 = ascii_utf8 s (pass_more is_plain is_ascii s plain_ascii h) }

space_plain : (c : ℕ) → is_space c ≡ true → is_plain c ≡ true
unfolding is_space is_plain
space_plain c h = grind arith

pub clean_blank : (s : List ℕ) → is_blank s ≡ true → Clean s
clean_blank s h = clean_ascii s (pass_more is_space is_plain s space_plain h)

-- ---- small letters

lower_passes : (p : ℕ → Bool) (s : List ℕ) → ((c : ℕ) → p (lower c) ≡ true → p c ≡ true) → all_pass p (map lower s) ≡ true → all_pass p s ≡ true
lower_passes p [] f h = refl
lower_passes p (c ∷ s) f h = let both = and_parts (p (lower c)) (all_pass p (map lower s)) h in and_from (p c) (all_pass p s) (f c both.0) (lower_passes p s f both.1)

lower_plain : (c : ℕ) → is_plain (lower c) ≡ true → is_plain c ≡ true
unfolding is_plain lower
lower_plain c h = grind arith

lower_no_zero : (c : ℕ) → is_no_zero (lower c) ≡ true → is_no_zero c ≡ true
unfolding is_no_zero lower
lower_no_zero c h = grind arith

-- a word whose small letters are plain ASCII
pub clean_word : (s word : List ℕ) → map lower s ≡ word → all_pass is_plain word ≡ true → Clean s
clean_word s word e h = clean_ascii s (lower_passes is_plain s lower_plain (subst (λ x. all_pass is_plain x ≡ true) (sym e) h))

lower_utf8_after : (s p : List ℕ) → is_utf8 (p ++ map lower s) ≡ true → is_utf8 (p ++ s) ≡ true
lower_utf8_after [] p h = h
lower_utf8_after (c ∷ s) p h = by_case (lower_cases c) (λ q i. lower_utf8_after s q i)
  where
    by_case : ((65 ≤ c) × (c ≤ 90) × (lower c ≡ c + 32)) ⊎ (((c < 65) ⊎ (90 < c)) × (lower c ≡ c)) → ((q : List ℕ) → is_utf8 (q ++ map lower s) ≡ true → is_utf8 (q ++ s) ≡ true)
        → is_utf8 (p ++ c ∷ s) ≡ true
    by_case (inl (low, high, e)) more =
        let front = utf8_before p (map lower s) (lower c) (omega arith) h in
        let rest = more [] (utf8_after (map lower s) (lower c) (omega arith) (utf8_from p (map lower s) (lower c) (omega arith) h)) in
        let one : is_ascii c ≡ true = low_ascii c (omega arith) in
        utf8_both p (c ∷ s) front (utf8_both (c ∷ []) s (ascii_utf8 (c ∷ []) (rw one refl)) rest)
    by_case (inr (apart, e)) more =
        let h' = subst (λ x. is_utf8 (p ++ x ∷ map lower s) ≡ true) e h in
        subst (λ x. is_utf8 x ≡ true) (append_assoc p (c ∷ []) s) (more (p ++ c ∷ []) (subst (λ x. is_utf8 x ≡ true) (sym (append_assoc p (c ∷ []) (map lower s))) h'))

-- a name that is clean in small letters
pub clean_lowered : (s name : List ℕ) → map lower s ≡ name → Clean name → Clean s
clean_lowered s name e h = record {
  bytes = lower_passes is_no_zero s lower_no_zero (subst (λ x. all_pass is_no_zero x ≡ true) (sym e) h.bytes);
  utf8 = lower_utf8_after s [] (subst (λ x. is_utf8 x ≡ true) (sym e) h.utf8);
}
