-- The number that digits write, up to where all numbers are alike.
use Rattle.std.proofs.Common.{◌≡◌, ℕ, zero, suc, ◌+◌, ◌*◌, ◌^◌, ◌<◌, ◌≤◌, ◌⊎◌, Bool, true, List, [], ◌∷◌, length, take, get_or, inl, inr, refl, ap, sym, ◌∙◌, arith}
use Rattle.std.proofs.Math.Nat.{mul-le-mul_left}
use Rattle.std.specs.Char.{digit_value}
use Rattle.std.specs.Int.{is_in_range}
use Rattle.std.specs.Str.Parse.{digits_value}
use Rattle.std.proofs.lemmas.Bool.{and_parts, cases_lt}
use Rattle.std.proofs.lemmas.Int.Digits.{digits_value_more}
use Rattle.hm_base.specs.Bytes.{all_pass, is_digit, is_digit_of}
use Rattle.hm_refs.specs.Numbers.{point_of}
use Rattle.hm_refs.specs.References.{value_of}
use Rattle.hm_refs.proofs.NumberLaws.{point_above}

digit_inside : (c : ℕ) → 48 ≤ c → c < 58 → is_in_range 48 57 c ≡ is_digit c
unfolding is_digit_of
digit_inside c low high = grind arith

digit_below : (c : ℕ) → c < 48 → is_in_range 48 57 c ≡ is_digit c
unfolding is_digit_of
digit_below c h = grind arith

digit_above : (c : ℕ) → 58 ≤ c → is_in_range 48 57 c ≡ is_digit c
unfolding is_digit_of
digit_above c h = grind arith

pub digit_is : (c : ℕ) → is_in_range 48 57 c ≡ is_digit c
digit_is c = elim (cases_lt c 48) [
  | inl low ↦ digit_below c low
  | inr low ↦ elim (cases_lt c 58) [ inl high ↦ digit_inside c low high | inr high ↦ digit_above c high ]
]

-- the number, or one above 0x10FFFF as it is
pub record IsNumber (base number : ℕ) (ds : List ℕ) : Type 0 where
  pub fits : number < 2 ^ 25
  pub is : (number ≡ digits_value base ds) ⊎ ((0x10FFFF < number) × (0x10FFFF < digits_value base ds))

pub all_pass_at : (p : ℕ → Bool) (s : List ℕ) (i : ℕ) → all_pass p s ≡ true → i < length s → p (get_or s i 0) ≡ true
all_pass_at p [] i all h = absurd (omega arith)
all_pass_at p (c ∷ s) zero all h = (and_parts (p c) (all_pass p s) all).0
all_pass_at p (c ∷ s) (suc i) all h = all_pass_at p s i (and_parts (p c) (all_pass p s) all).1 (omega arith)

pub step_fits : (number base d : ℕ) → number ≤ 0x10FFFF → base ≤ 16 → d < base → number * base + d < 2 ^ 25
step_fits number base d n b h = omega (arith, mul-le-mul_left number b)

pub number_more : (base number : ℕ) (ds : List ℕ) (i d : ℕ) → base ≤ 16 → d < base → i < length ds → d ≡ digit_value (get_or ds i 0) → number ≤ 0x10FFFF → IsNumber base number (take i ds) → IsNumber base (number * base + d) (take (i + 1) ds)
number_more base number ds i d high below h is low n = record {
  fits = step_fits number base d low high below;
  is = elim n.is [ inl e ↦ inl (rw (digits_value_more base ds i h, ← e, ← is) refl) | inr e ↦ absurd (omega (arith, e.0)) ];
}

pub number_high : (base number : ℕ) (ds : List ℕ) (i : ℕ) → 2 ≤ base → i < length ds → 0x10FFFF < number → IsNumber base number (take i ds) → IsNumber base number (take (i + 1) ds)
number_high base number ds i low h high n = record {
  fits = n.fits;
  is = inr (high, rw (digits_value_more base ds i h) (omega (arith, mul-le-mul_left (digits_value base (take i ds)) low, above n.is)));
}
  where
    above : (number ≡ digits_value base (take i ds)) ⊎ ((0x10FFFF < number) × (0x10FFFF < digits_value base (take i ds))) → 0x10FFFF < digits_value base (take i ds)
    above (inl e) = omega arith
    above (inr e) = e.1

pub number_is : (base number : ℕ) (ds : List ℕ) → IsNumber base number ds → point_of number ≡ point_of (value_of base ds)
unfolding value_of
number_is base number ds n = elim n.is [ inl e ↦ ap point_of e | inr e ↦ point_above number e.0 ∙ sym (point_above (digits_value base ds) e.1) ]
