-- A price and its text.
use Rattle.std.proofs.Common.{◌≡◌, ◌<◌, ◌≤◌, ◌^◌, ◌+◌, ◌-◌, ◌*◌, take, length-take, ℕ, zero, suc, Bool, true, false, cond, ◌&&◌, ◌==◌, List, [], ◌∷◌, get_or, length, refl, sym, ap, ◌∙◌, subst, arith}
use Rattle.std.specs.Prelude.{Option, Some, None, option_map, bytes_eq, nat_lt}
use Rattle.std.specs.Fmt.{decimal}
use Rattle.std.specs.Str.Parse.{AllDigits, digits_value}
use Rattle.std.proofs.lemmas.Bool.{false_from_ne_true}
use Rattle.std.proofs.lemmas.Bool.Decides.{Decides-eqb, Decides-ltb, nat_tests}
use Rattle.std.proofs.lemmas.Slice.Eq.{bytes_eq-Decides}
use Rattle.std.proofs.lemmas.Fmt.{digits_decimal, digits_value-decimal, decimal_digit, decimal-digits_value, decimal_nonempty, first_decimal, length-decimal-le}
use Rattle.std.specs.Char.{digit_value, is_ascii_digit}
use Rattle.std.proofs.lemmas.Int.Digits.{digits_more, digits_value_more}
use Rattle.std.proofs.lemmas.Str.Parse.{IsNumeralModel, digit_at, digits_value_short}
use Rattle.hm_cert.specs.Certificate.{IsPrice, price_text}
use Rattle.hm_cert.specs.Layout.{told}
use Rattle.hm_cert.specs.Reading.{word_price}
use Rattle.hm_cert.specs.Words.{HasNumberForm, IsNumber, IsUpTo}

pub own : IsNumeralModel (AllDigits 10) (digits_value 10)
own = record { to = λ ds h. h; from = λ ds h. h; same = λ ds h. refl }

pub digits_of_decimal : (n : ℕ) → n < 2 ^ 63 → AllDigits 10 (decimal n) × (digits_value 10 (decimal n) ≡ n)
digits_of_decimal n h = (digits_decimal own n (omega arith), digits_value-decimal own n (omega arith))

-- a text of a number isn't that of a closed price
not_closed : (n : ℕ) → n < 2 ^ 63 → decimal n ≡ 45 ∷ [] → ⊥
not_closed n h e = let d : AllDigits 10 (45 ∷ []) = subst (AllDigits 10) e (digits_of_decimal n h).0 in omega (arith, d.0)

-- the text of a price is read as the price
pub text_price : (price : Option ℕ) → IsPrice price → word_price (price_text price) ≡ Some price
text_price None h = refl
text_price (Some n) h =
    let open_ : bytes_eq (decimal n) (45 ∷ []) ≡ false = false_from_ne_true _ (λ e. not_closed n h ((bytes_eq-Decides (decimal n) (45 ∷ [])).0 e)) in
    let value : digits_value 10 (decimal n) ≡ n = (digits_of_decimal n h).1 in
    let same : bytes_eq (decimal n) (decimal n) ≡ true = (bytes_eq-Decides (decimal n) (decimal n)).1 refl in
    let small : nat_lt n (2 ^ 63) ≡ true = (Decides-ltb n (2 ^ 63)).1 h in
    rw (open_, value, same, small) refl

-- what is read as a price is its text
pub price_back : (word : List ℕ) (price : Option ℕ) → word_price word ≡ Some price → (price_text price ≡ word) × IsPrice price
price_back word price h = by_closed (bytes_eq word (45 ∷ [])) refl h
  where
    by_number : (b c : Bool) → bytes_eq word (decimal (digits_value 10 word)) ≡ b → nat_lt (digits_value 10 word) (2 ^ 63) ≡ c → cond (b && c) (Some (Some (digits_value 10 word))) None ≡ Some price → (price_text price ≡ word) × IsPrice price
    by_number true true e f g =
        let is : Some (digits_value 10 word) ≡ price = cc in
        subst (λ p. (price_text p ≡ word) × IsPrice p) is (sym ((bytes_eq-Decides word (decimal (digits_value 10 word))).0 e), (Decides-ltb (digits_value 10 word) (2 ^ 63)).0 f)
    by_number true false e f g = absurd (cc)
    by_number false c e f g = absurd (cc)

    by_closed : (b : Bool) → bytes_eq word (45 ∷ []) ≡ b → cond b (Some None) (cond (bytes_eq word (decimal (digits_value 10 word)) && nat_lt (digits_value 10 word) (2 ^ 63)) (Some (Some (digits_value 10 word))) None) ≡ Some price → (price_text price ≡ word) × IsPrice price
    by_closed true e f =
        let is : None ≡ price = cc in
        subst (λ p. (price_text p ≡ word) × IsPrice p) is (sym ((bytes_eq-Decides word (45 ∷ [])).0 e), tt)
    by_closed false e f = by_number (bytes_eq word (decimal (digits_value 10 word))) (nat_lt (digits_value 10 word) (2 ^ 63)) refl refl f

-- digits aren't a closed price
pub no_dash : (word : List ℕ) → AllDigits 10 word → word ≡ 45 ∷ [] → ⊥
no_dash word d e = let dash : AllDigits 10 (45 ∷ []) = subst (AllDigits 10) e d in omega (arith, dash.0)

pub no_price : (word : List ℕ) → ((price : Option ℕ) → IsPrice price → price_text price ≡ word → ⊥) → word_price word ≡ None
no_price word h = by_case (word_price word) refl
  where
    by_case : (o : Option (Option ℕ)) → word_price word ≡ o → o ≡ None
    by_case None e = refl
    by_case (Some price) e = let b = price_back word price e in absurd (h price b.1 b.0)

pub told_number : (n : ℕ) → n < 2 ^ 63 → told n ≡ Some n
told_number n h =
    let other : (n == 18446744073709551615) ≡ false = false_from_ne_true _ (λ e. omega (arith, (Decides-eqb n 18446744073709551615).0 e)) in
    rw other refl

-- a word without the form of a number is no price, except `-`
pub no_form : (word : List ℕ) → (word ≡ 45 ∷ [] → ⊥) → (HasNumberForm word → ⊥) → word_price word ≡ None
no_form word not_dash other = no_price word none
  where
    first : (n : ℕ) → n < 2 ^ 63 → get_or (decimal n) 0 0 ≡ 48 → length (decimal n) ≡ 1
    first zero h e = ap length (decimal_digit 0 (omega arith))
    first (suc n) h e = absurd (omega (arith, first_decimal (suc n) (omega arith) (omega arith)))

    form : (n : ℕ) → n < 2 ^ 63 → HasNumberForm (decimal n)
    form n h = (decimal_nonempty n (omega arith), length-decimal-le 19 n (omega arith) (omega arith) (omega arith), first n h)

    none : (price : Option ℕ) → IsPrice price → price_text price ≡ word → ⊥
    none None h e = not_dash (sym e)
    none (Some n) h e = other (subst HasNumberForm e (form n h))

-- a word of that form, by the number that its digits write
pub number_read : (word : List ℕ) (number : Option ℕ) → (word ≡ 45 ∷ [] → ⊥) → HasNumberForm word → IsNumber word number → option_map told number ≡ word_price word
number_read word None not_dash form h = sym (no_price word none)
  where
    none : (price : Option ℕ) → IsPrice price → price_text price ≡ word → ⊥
    none None l e = not_dash (sym e)
    none (Some n) l e =
        let d = subst (λ w. AllDigits 10 w × (digits_value 10 w ≡ n)) e (digits_of_decimal n l) in
        omega (arith, h d.0, d.1)
number_read word (Some n) not_dash form h =
    let text : decimal n ≡ word = ap decimal (sym h.1) ∙ decimal-digits_value own word h.0 form.0 form.2 (omega (arith, h.1, h.2)) in
    ap Some (told_number n h.2) ∙ sym (ap word_price (sym text) ∙ text_price (Some n) h.2)

-- a byte that is a digit, and one that is none
pub digit_range : (b : ℕ) → true ≡ is_ascii_digit b → (48 ≤ b) × (b ≤ 57)
digit_range b e = (grind (arith, nat_tests), grind (arith, nat_tests))

no_digit : (b : ℕ) → false ≡ is_ascii_digit b → 48 ≤ b → b ≤ 57 → ⊥
no_digit b e l h = grind (arith, nat_tests)

pub digit_is : (b : ℕ) → 48 ≤ b → b ≤ 57 → digit_value b ≡ b - 48
digit_is b l h =
    let low : nat_lt b 48 ≡ false = false_from_ne_true _ (λ e. omega (arith, (Decides-ltb b 48).0 e)) in
    let high : nat_lt b 58 ≡ true = (Decides-ltb b 58).1 (omega arith) in
    rw (low, high) refl

-- at a place whose byte is no digit
pub other_byte : (word : List ℕ) (i : ℕ) → i < length word → false ≡ is_ascii_digit (get_or word i 0) → AllDigits 10 word → ⊥
other_byte word i h e d = let r = digit_at word i d h in no_digit (get_or word i 0) e r.0 r.1

-- a number of at most 18 digits
pub up_to_small : (word : List ℕ) (i number : ℕ) → i ≤ 18 → IsUpTo word i number → number < 10 ^ 18
up_to_small word i number few u = rw u.value (digits_value_short own (take i word) 18 u.digits (omega (arith, length-take i word)))

-- and one more
pub digit_small : (word : List ℕ) (i number : ℕ) → i < length word → length word ≤ 19 → IsUpTo word i number → number < 10 ^ 18
digit_small word i number h few u = up_to_small word i number (omega (arith, h, few)) u

pub digit_more : (word : List ℕ) (i number digit : ℕ) → i < length word → IsUpTo word i number → true ≡ is_ascii_digit (get_or word i 0) → digit ≡ get_or word i 0 - 48 → (digit ≤ 9) × IsUpTo word (i + 1) (number * 10 + digit)
digit_more word i number digit h u e is =
    let r = digit_range (get_or word i 0) e in
    let d : digit_value (get_or word i 0) ≡ get_or word i 0 - 48 = digit_is (get_or word i 0) r.0 r.1 in (
      omega (arith, is, r.0, r.1),
      record {
        digits = digits_more 10 word i h u.digits (omega (arith, d, r.0, r.1));
        value = ap (λ n. n * 10 + digit) u.value ∙ ap (λ n. digits_value 10 (take i word) * 10 + n) (is ∙ sym d) ∙ sym (digits_value_more 10 word i h);
      },
    )

pub other_word : (word slice dash : List ℕ) → false ≡ bytes_eq word slice → slice ≡ dash → word ≡ dash → ⊥
other_word word slice dash e f g = let h = (bytes_eq-Decides word slice).1 (g ∙ sym f) in cc
