-- Numbers that differ in their last two digits.
use Rattle.std.proofs.Common.{◌≡◌, ◌+◌, ◌-◌, ◌*◌, ◌^◌, ◌<◌, ◌≤◌, ℕ, Bool, true, false, cond, ◌==◌, List, [], ◌∷◌, ◌++◌, get_or, length, take, drop, refl, sym, ap, ◌∙◌, subst, append_assoc, arith, rules, length-append, length-drop, ◌/◌, ◌%◌}
use Rattle.std.specs.Prelude.{Some, None, nat_lt}
use Rattle.std.specs.Fmt.{decimal}
use Rattle.std.proofs.lemmas.Bool.{ltb-true, ltb-false}
use Rattle.std.proofs.lemmas.Fmt.{decimal-digits_value, decimal_step, length-decimal-le}
use Rattle.std.proofs.Math.Seq.{take-append_seam}
use Rattle.std.proofs.lemmas.List.{take_more, take_all}
use Rattle.std.proofs.lemmas.Str.Parse.{digits_value_short}
use Rattle.std.specs.Str.Parse.{digits_value}
use Rattle.hm_cert.specs.Certificate.{IsPrice, price_text}
use Rattle.hm_cert.specs.Layout.{told}
use Rattle.hm_cert.specs.Leading.{IsLeading, WritesPair, BeginsWith}
use Rattle.hm_cert.specs.Short.{IsShortWord, IsLastPrice}
use Rattle.hm_cert.proofs.PriceTexts.{own, digits_of_decimal, told_number}

-- ---- Two more digits

one_digit : (n f a : ℕ) → n ≡ f * 10 + a → 0 < f → n < 2 ^ 63 → a ≤ 9 → decimal n ≡ decimal f ++ (48 + a) ∷ []
one_digit n f a e some small digit =
    let front : n / 10 ≡ f = omega (arith, e, digit) in
    let last : n % 10 ≡ a = omega (arith, e, digit) in
    decimal_step n (omega (arith, e, some)) (omega (arith, small)) ∙ (λ i. decimal (front i) ++ (48 + last i) ∷ [])

pub two_digits : (f a b : ℕ) → 0 < f → f < 10 ^ 10 → a ≤ 9 → b ≤ 9 → decimal (f * 100 + (a * 10 + b)) ≡ decimal f ++ (48 + a) ∷ (48 + b) ∷ []
two_digits f a b some small high low =
    one_digit (f * 100 + (a * 10 + b)) (f * 10 + a) b (omega arith) (omega (arith, some)) (omega (arith, small, high, low)) low
    ∙ ap (λ x. x ++ (48 + b) ∷ []) (one_digit (f * 10 + a) f a refl some (omega (arith, small, high)) high)
    ∙ append_assoc (decimal f) ((48 + a) ∷ []) ((48 + b) ∷ [])

pub thousand : IsLeading (49 ∷ 48 ∷ 48 ∷ 48 ∷ []) 1000
thousand = record { some = omega arith; few = omega arith; positive = omega arith; small = omega arith; written = sym (decimal-digits_value own (49 ∷ 48 ∷ 48 ∷ 48 ∷ []) (search rules) (omega arith) (λ e. absurd (omega (arith, e))) (omega arith)) }

-- ---- Of a word

large_number : (n : ℕ) → n < 2 ^ 63 → 6 ≤ length (decimal n) → 100 ≤ n
large_number n h some = by_order (nat_lt n 100) refl
  where
    by_order : (b : Bool) → nat_lt n 100 ≡ b → 100 ≤ n
    by_order true e = absurd (let short : length (decimal n) ≤ 2 = length-decimal-le 2 n (omega arith) (omega (arith, ltb-true n 100 e)) (omega (arith, h)) in omega (arith, some, short))
    by_order false e = ltb-false n 100 e

pub low_number : (n : ℕ) → n < 2 ^ 63 → length (decimal n) ≤ 10 → n < 10 ^ 10
low_number n h few =
    let d = digits_of_decimal n h in
    let low : digits_value 10 (decimal n) < 10 ^ 10 = digits_value_short own (decimal n) 10 d.0 few in
    omega (arith, low, d.1)

-- the first digits of a number of more than two
front_digits : (n : ℕ) → n < 2 ^ 63 → 6 ≤ length (decimal n) → decimal n ≡ decimal (n / 100) ++ (48 + n / 10 % 10) ∷ (48 + n % 10) ∷ []
front_digits n small some =
    let high : 100 ≤ n = large_number n small some in
    decimal_step n (omega (arith, high)) (omega (arith, small))
    ∙ ap (λ x. x ++ (48 + n % 10) ∷ []) (decimal_step (n / 10) (omega (arith, high)) (omega (arith, small)))
    ∙ append_assoc (decimal (n / 10 / 10)) ((48 + n / 10 % 10) ∷ []) ((48 + n % 10) ∷ [])
    ∙ (let again : n / 10 / 10 ≡ n / 100 = omega arith in ap (λ m. decimal m ++ (48 + n / 10 % 10) ∷ (48 + n % 10) ∷ []) again)

pub leading_of : (word : List ℕ) (price : ℕ) → IsPrice (told price) → word ≡ price_text (told price) → 6 ≤ length word → length word ≤ 10 → IsLeading (take (length word - 2) word) (price / 100)
leading_of word price can is some few = by_test (price == 18446744073709551615) refl can is
  where
    of_number : price < 2 ^ 63 → word ≡ decimal price → IsLeading (take (length word - 2) word) (price / 100)
    of_number small w =
        let wide : 6 ≤ length (decimal price) = omega (arith, some, ap length w) in
        let parts : word ≡ decimal (price / 100) ++ (48 + price / 10 % 10) ∷ (48 + price % 10) ∷ [] = w ∙ front_digits price small wide in
        let size : length word ≡ length (decimal (price / 100)) + 2 = ap length parts ∙ length-append (decimal (price / 100)) ((48 + price / 10 % 10) ∷ (48 + price % 10) ∷ []) in
        let low : price < 10 ^ 10 = low_number price small (omega (arith, few, ap length w)) in
        let high : 100 ≤ price = large_number price small wide in
        let left : length word - 2 ≡ length (decimal (price / 100)) = omega (arith, size) in
        let cut : take (length word - 2) word ≡ decimal (price / 100) =
        (λ i. take (left i) (parts i)) ∙ take-append_seam (decimal (price / 100)) ((48 + price / 10 % 10) ∷ (48 + price % 10) ∷ []) in
        record {
          some = omega (arith, size, some, ap length cut);
          few = omega (arith, size, few, ap length cut);
          positive = omega (arith, high);
          small = omega (arith, low);
          written = cut;
        }

    by_test : (b : Bool) → (price == 18446744073709551615) ≡ b → IsPrice (cond b None (Some price)) → word ≡ price_text (cond b None (Some price)) → IsLeading (take (length word - 2) word) (price / 100)
    by_test true e h w = absurd (omega (arith, some, ap length w))
    by_test false e h w = of_number h w

-- ---- Of a text

pub begins : (text digits : List ℕ) (f m : ℕ) → length digits + 2 ≤ length text → take (length digits) text ≡ digits → IsLeading digits f → WritesPair (get_or text (length digits) 0) (get_or text (length digits + 1) 0) m
    → BeginsWith text (length digits + 2) (f * 100 + m)
begins text digits f m inside front h p = record {
  inside = inside;
  few = omega (arith, h.few);
  small = omega (arith, h.small, p.value, p.high_digit, p.low_digit);
  written =
      let n : ℕ = length digits in
      let sum : n + 2 ≡ n + 1 + 1 = omega arith in
      ap (λ k. take k text) sum
      ∙ take_more text (n + 1) 0 (omega (arith, inside))
      ∙ ap (λ x. x ++ get_or text (n + 1) 0 ∷ []) (take_more text n 0 (omega (arith, inside)))
      ∙ append_assoc (take n text) (get_or text n 0 ∷ []) (get_or text (n + 1) 0 ∷ [])
      ∙ (λ i. (front ∙ h.written) i ++ p.tens_are i ∷ p.ones_are i ∷ [])
      ∙ sym (two_digits f p.high p.low h.positive h.small p.high_digit p.low_digit)
      ∙ ap (λ k. decimal (f * 100 + k)) (sym p.value);
}

pub word_begins : (text : List ℕ) (len number : ℕ) → BeginsWith text len number → len < length text → IsShortWord text len
word_begins text len number h inside = record { inside = inside; price = Some number; can = h.small; written = h.written }

pub price_ends : (text : List ℕ) (at len number : ℕ) → at + len ≡ length text → BeginsWith (drop at text) len number → IsLastPrice text at number
price_ends text at len number size h =
    let is : told number ≡ Some number = told_number number h.small in
    let whole : take len (drop at text) ≡ drop at text = take_all len (drop at text) (omega (arith, size, length-drop at text)) in
    record {
      within = omega (arith, size);
      can = subst IsPrice (sym is) h.small;
      written = sym whole ∙ h.written ∙ sym (ap price_text is);
    }
