-- Bytes of names in any case.
use Rattle.std.proofs.Common.{◌≡◌, ℕ, ◌≤◌, Bool, true, false, ◌&&◌, ◌==◌, nat_le, List, [], ◌∷◌, map, refl, arith}
use Rattle.std.proofs.lemmas.Bool.{and_parts}
use Rattle.std.proofs.lemmas.Bool.Decides.{Decides-eqb}
use Rattle.hm_base.specs.Bytes.{is_space, is_letter, is_digit_of, lower, all_pass, some_passes, head_is}
use Rattle.hm_base.specs.RawText.{is_name_end}
use Rattle.hm_base.specs.Forms.{is_small, is_tag_byte, is_tag_name, is_attribute_byte, is_attribute_name}
use Rattle.hm_scan.specs.Tags.{is_name_byte, is_later_byte}
use Rattle.hm_scan.specs.Reading.{is_bad_byte, is_bad_name}

-- what passes differs from what doesn't
pub differs : (p : ℕ → Bool) (c d : ℕ) → p c ≡ true → p d ≡ false → (c == d) ≡ false
differs p c d passes fails = elim (c == d) as (λ b. (c == d) ≡ b → b ≡ false)
    [ true ↦ λ e. absurd (clash ((Decides-eqb c d).0 e)) | false ↦ λ e. refl ] refl
  where
    clash : c ≡ d → ⊥
    clash e = let h : p d ≡ true = rw e at passes in cc

data LowerCases (c : ℕ) : Type 0 where
  capital : 65 ≤ c → c ≤ 90 → LowerCases c
  other : lower c ≡ c → LowerCases c

lower_cases : (c : ℕ) → LowerCases c
unfolding lower
lower_cases c = by_test (nat_le 65 c && nat_le c 90) refl
  where
    by_test : (b : Bool) → nat_le 65 c && nat_le c 90 ≡ b → LowerCases c
    by_test true e = capital (grind arith) (grind arith)
    by_test false e = other (rw e refl)

-- a byte that may stand in an attribute's name after its first one, and in a good one
pub record IsPlain (c : ℕ) : Type 0 where
  pub later : is_later_byte c ≡ true
  pub good : is_bad_byte c ≡ false
  pub no_equals : (c == 61) ≡ false

capital_plain : (c : ℕ) → 65 ≤ c → c ≤ 90 → IsPlain c
unfolding is_later_byte is_name_end is_space is_bad_byte
capital_plain c low high = record { later = grind arith; good = grind arith; no_equals = grind arith }

attribute_byte_plain : (c : ℕ) → is_attribute_byte c ≡ true → IsPlain c
unfolding is_attribute_byte is_later_byte is_name_end is_space is_bad_byte
attribute_byte_plain c h =
    let d = λ (k : ℕ) (e : is_attribute_byte k ≡ false). differs is_attribute_byte c k h e in
    record {
      later = rw (d 9 refl, d 10 refl, d 12 refl, d 13 refl, d 32 refl, d 47 refl, d 62 refl, d 61 refl) refl;
      good = rw (d 34 refl, d 39 refl, d 60 refl) refl;
      no_equals = d 61 refl;
    }

pub plain_from_lower : (c : ℕ) → is_attribute_byte (lower c) ≡ true → IsPlain c
plain_from_lower c h = elim (lower_cases c) [ capital low high ↦ capital_plain c low high | other e ↦ attribute_byte_plain c (rw e at h) ]

pub small_letter : (c : ℕ) → is_small (lower c) ≡ true → is_letter c ≡ true
unfolding is_letter is_small lower
small_letter c h = grind arith

capital_name_byte : (c : ℕ) → 65 ≤ c → c ≤ 90 → is_name_byte c ≡ true
unfolding is_name_byte is_name_end is_space
capital_name_byte c low high = grind arith

tag_byte_name_byte : (c : ℕ) → is_tag_byte c ≡ true → is_name_byte c ≡ true
unfolding is_tag_byte is_small is_digit_of is_name_byte is_name_end is_space
tag_byte_name_byte c h =
    let d = λ (k : ℕ) (e : is_tag_byte k ≡ false). differs is_tag_byte c k h e in
    rw (d 9 refl, d 10 refl, d 12 refl, d 13 refl, d 32 refl, d 47 refl, d 62 refl) refl

name_byte_from_lower : (c : ℕ) → is_tag_byte (lower c) ≡ true → is_name_byte c ≡ true
name_byte_from_lower c h = elim (lower_cases c) [ capital low high ↦ capital_name_byte c low high | other e ↦ tag_byte_name_byte c (rw e at h) ]

name_bytes_from_lower : (s : List ℕ) → all_pass is_tag_byte (map lower s) ≡ true → all_pass is_name_byte s ≡ true
name_bytes_from_lower [] h = refl
name_bytes_from_lower (c ∷ s) h =
    let both = and_parts (is_tag_byte (lower c)) (all_pass is_tag_byte (map lower s)) h in
    rw (name_byte_from_lower c both.0, name_bytes_from_lower s both.1) refl

small_tag_byte : (c : ℕ) → is_small c ≡ true → is_tag_byte c ≡ true
unfolding is_tag_byte
small_tag_byte c h = rw h refl

-- a name of an element in any case: a letter, and bytes that don't end it
pub record IsWrittenName (s : List ℕ) : Type 0 where
  pub letter : head_is is_letter s ≡ true
  pub all : all_pass is_name_byte s ≡ true

pub tag_name_written : (s : List ℕ) → is_tag_name (map lower s) ≡ true → IsWrittenName s
unfolding is_tag_name
tag_name_written [] h = absurd (cc)
tag_name_written (c ∷ s) h =
    let both = and_parts (is_small (lower c)) (all_pass is_tag_byte (map lower s)) h in
    record {
      letter = small_letter c both.0;
      all = name_bytes_from_lower (c ∷ s) (rw (small_tag_byte (lower c) both.0, both.1) refl);
    }

-- a name of an attribute in any case
pub record IsWrittenAttribute (s : List ℕ) : Type 0 where
  pub first : ℕ
  pub more : List ℕ
  pub is : s ≡ first ∷ more
  pub plain : IsPlain first
  pub later : all_pass is_later_byte more ≡ true
  pub good : is_bad_name s ≡ false

all_later : (s : List ℕ) → all_pass is_attribute_byte (map lower s) ≡ true → all_pass is_later_byte s ≡ true
all_later [] h = refl
all_later (c ∷ s) h =
    let both = and_parts (is_attribute_byte (lower c)) (all_pass is_attribute_byte (map lower s)) h in
    rw ((plain_from_lower c both.0).later, all_later s both.1) refl

none_bad : (s : List ℕ) → all_pass is_attribute_byte (map lower s) ≡ true → some_passes is_bad_byte s ≡ false
none_bad [] h = refl
none_bad (c ∷ s) h =
    let both = and_parts (is_attribute_byte (lower c)) (all_pass is_attribute_byte (map lower s)) h in
    rw ((plain_from_lower c both.0).good, none_bad s both.1) refl

pub attribute_name_written : (s : List ℕ) → is_attribute_name (map lower s) ≡ true → IsWrittenAttribute s
unfolding is_attribute_name
attribute_name_written [] h = absurd (cc)
attribute_name_written (c ∷ s) h =
    let both = and_parts (is_attribute_byte (lower c)) (all_pass is_attribute_byte (map lower s)) h in
    let plain = plain_from_lower c both.0 in
    record {
      first = c;
      more = s;
      is = refl;
      plain = plain;
      later = all_later s both.1;
      good = rw (plain.no_equals, none_bad (c ∷ s) h) refl;
    }
