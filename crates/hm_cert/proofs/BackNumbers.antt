-- Lines of one price of few digits, from the end.
use Rattle.hm_cert.proofs.Before.{free_at}
use Rattle.hm_cert.proofs.Texts.{row_text_cons}
use Rattle.std.proofs.lemmas.Fmt.{decimal-digits_value}
use Rattle.std.specs.Fmt.{decimal}
use Rattle.hm_cert.specs.Certificate.{Row, IsPrice, ArePrices, more_prices, price_text, row_text}
use Rattle.std.proofs.Common.{◌≡◌, ◌+◌, ◌-◌, ◌*◌, ◌^◌, ◌<◌, ◌≤◌, ℕ, ◌≢◌, suc, true, List, [], ◌∷◌, get_or, length, take, drop, sym, ap, ◌∙◌, subst, arith, length-drop, length-take, ◌++◌, map, reverse}
use Rattle.std.specs.Prelude.{Some, slice_range}
use Rattle.std.specs.Char.{digit_value, is_ascii_digit}
use Rattle.std.specs.Str.Parse.{AllDigits, digits_value, digits_value_after}
use Rattle.std.proofs.Math.Nat.{pow-le-pow_right, pow-suc}
use Rattle.std.proofs.Math.Seq.{drop-length, take-add}
use Rattle.std.proofs.lemmas.Nat.{mul-lt}
use Rattle.std.proofs.lemmas.Int.Digits.{digits_value-lt}
use Rattle.std.proofs.lemmas.List.{drop_more, drop-take, get_or-drop, get_or-take, drop-drop, reverse-append}
use Rattle.std.proofs.lemmas.Str.Parse.{digits_value_short}
use Rattle.hm_cert.specs.Layout.{told}
use Rattle.hm_cert.specs.Short.{IsBackTo, IsLastPrice, IsShortRow}
use Rattle.hm_cert.specs.Words.{HasNumberForm}
use Rattle.hm_cert.proofs.PriceTexts.{digit_is, digit_range, own, told_number}
use Rattle.hm_cert.proofs.Written.{free_row}

-- ---- One more digit before

spread_more : (n v p x : ℕ) → (n * 10 + v) * p + x ≡ n * (p * 10) + (v * p + x)
spread_more n v p x = grind arith

front_zero : (d : ℕ) (digits : List ℕ) → digits_value 10 (d ∷ digits) ≡ digits_value_after 10 (digit_value d) digits
front_zero d digits = let none : 0 * 10 + digit_value d ≡ digit_value d = omega arith in ap (λ n. digits_value_after 10 n digits) none

value_after : (n : ℕ) (digits : List ℕ) → digits_value_after 10 n digits ≡ n * 10 ^ length digits + digits_value 10 digits
value_after n [] = grind arith
value_after n (d ∷ digits) =
    value_after (n * 10 + digit_value d) digits
    ∙ spread_more n (digit_value d) (10 ^ length digits) (digits_value 10 digits)
    ∙ (λ i. n * sym (pow-suc 10 (length digits)) i + sym (front_zero d digits ∙ value_after (digit_value d) digits) i)

front_digit : (d : ℕ) (digits : List ℕ) → digits_value 10 (d ∷ digits) ≡ digit_value d * 10 ^ length digits + digits_value 10 digits
front_digit d digits = front_zero d digits ∙ value_after (digit_value d) digits

-- the digits after a place, their number and the next power of 10
pub record AreDigitsAfter (text : List ℕ) (at number power : ℕ) : Type 0 where
  pub back : IsBackTo text at number
  pub next : power ≡ 10 ^ (length text - at)

pub none_follows : (text : List ℕ) → AreDigitsAfter text (length text) 0 1
none_follows text =
    let none : drop (length text) text ≡ [] = drop-length text in
    record {
      back = record { within = omega arith; few = omega arith; digits = subst (AllDigits 10) (sym none) tt; value = ap (digits_value 10) (sym none) };
      next = let zero_left : 0 ≡ length text - length text = omega arith in ap (λ n. 10 ^ n) zero_left;
    }

-- sums with one more digit are small
pub small_after : (text : List ℕ) (at number power : ℕ) → AreDigitsAfter text at number power → length text < at + 18 → (number < power) × (power ≤ 10 ^ 17)
small_after text at number power h few =
    let lt : digits_value 10 (drop at text) < 10 ^ length (drop at text) = digits_value-lt 10 (drop at text) h.back.digits in
    let size : length (drop at text) ≡ length text - at = length-drop at text in
    let same : 10 ^ length (drop at text) ≡ power = ap (λ n. 10 ^ n) size ∙ sym h.next in
    let most : 10 ^ (length text - at) ≤ 10 ^ 17 = pow-le-pow_right (omega arith) {i = length text - at} {j = 17} (omega (arith, few)) in
    (omega (arith, lt, same, h.back.value), omega (arith, most, h.next))

pub sum_fits : (number digit power : ℕ) → digit ≤ 9 → number < power → power ≤ 10 ^ 17 → number + digit * power < 2 ^ 64
sum_fits number digit power small below most = let all : digit * power < 10 * (10 ^ 17 + 1) = mul-lt digit power 10 (10 ^ 17 + 1) (omega arith) (omega arith) in omega (arith, all)

pub after_more : (text : List ℕ) (at number power digit : ℕ) → 0 < at → length text < at + 18 → AreDigitsAfter text at number power → true ≡ is_ascii_digit (get_or text (at - 1) 0) → digit ≡ get_or text (at - 1) 0 - 48
    → (digit ≤ 9) × AreDigitsAfter text (at - 1) (number + digit * power) (power * 10)
after_more text at number power digit some few h e is =
    let byte : ℕ = get_or text (at - 1) 0 in
    let range = digit_range byte e in
    let value : digit_value byte ≡ digit = digit_is byte range.0 range.1 ∙ sym is in
    let back : at - 1 + 1 ≡ at = omega (arith, some) in
    let inside : at - 1 < length text = omega (arith, some, h.back.within) in
    let cut : drop (at - 1) text ≡ byte ∷ drop at text = drop_more text (at - 1) 0 inside ∙ ap (λ n. byte ∷ drop n text) back in
    let left : length text - (at - 1) ≡ suc (length text - at) = omega (arith, some, h.back.within) in
    let size : length (drop at text) ≡ length text - at = length-drop at text in
    let high : power ≡ 10 ^ length (drop at text) = h.next ∙ ap (λ n. 10 ^ n) (sym size) in
    let sum : digits_value 10 (drop (at - 1) text) ≡ digit * power + digits_value 10 (drop at text) = ap (digits_value 10) cut ∙ front_digit byte (drop at text) ∙ (λ i. value i * sym high i + digits_value 10 (drop at text)) in (
      omega (arith, is, range.0, range.1),
      record {
        back = record {
          within = omega (arith, inside);
          few = omega (arith, few, some);
          digits = subst (AllDigits 10) (sym cut) (omega (arith, value, is, range.0, range.1), h.back.digits);
          value = omega (arith, sum, h.back.value);
        };
        next = sym (ap (λ n. 10 ^ n) left ∙ pow-suc 10 (length text - at) ∙ ap (λ p. p * 10) (sym h.next));
      },
    )

-- ---- A price

pub last_number : (text : List ℕ) (at number : ℕ) → IsBackTo text at number → HasNumberForm (drop at text) → IsLastPrice text at number
last_number text at number h form =
    let small : digits_value 10 (drop at text) < 10 ^ 18 = digits_value_short own (drop at text) 18 h.digits (omega (arith, h.few, length-drop at text)) in
    let low : number < 2 ^ 63 = omega (arith, small, h.value) in
    let is : told number ≡ Some number = told_number number low in
    record {
      within = h.within;
      can = subst IsPrice (sym is) low;
      written = sym (ap price_text is ∙ ap decimal h.value ∙ decimal-digits_value own (drop at text) h.digits form.0 form.2 (omega (arith, small)));
    }

pub last_closed : (text : List ℕ) → 0 < length text → get_or text (length text - 1) 0 ≡ 45 → IsLastPrice text (length text - 1) 18446744073709551615
last_closed text some e =
    let next : length text - 1 + 1 ≡ length text = omega (arith, some) in
    record {
      within = omega arith;
      can = tt;
      written = drop_more text (length text - 1) 0 (omega (arith, some)) ∙ (λ i. e i ∷ drop (next i) text) ∙ ap (λ x. 45 ∷ x) (drop-length text);
    }

pub last_again : (text word : List ℕ) (price : ℕ) → drop (length text - length word) text ≡ word → IsPrice (told price) → word ≡ price_text (told price) → IsLastPrice text (length text - length word) price
last_again text word price h can is = record { within = omega arith; can = can; written = h ∙ is }

-- the word of a price that was read
pub last_word : (text part : List ℕ) (front at price : ℕ) → front ≤ length text → part ≡ take front text → IsLastPrice part at price → slice_range text at front ≡ price_text (told price)
last_word text part front at price inside cut last =
    let low : at ≤ front = omega (arith, last.within, ap length cut, length-take front text) in
    let sum : at + (front - at) ≡ front = omega (arith, low) in
    sym (drop-take at (front - at) text) ∙ ap (λ n. drop at (take n text)) sum ∙ ap (drop at) (sym cut) ∙ last.written

-- ---- The prices of a line

-- a text has prices between two places, each after a space; those that were read are listed with the last one first
pub record ArePricesBetween (text : List ℕ) (front end : ℕ) (numbers : List ℕ) : Type 0 where
  pub within : front ≤ end
  pub prices : ArePrices (map told (reverse numbers))
  pub written : slice_range text front end ≡ more_prices (map told (reverse numbers))

pub none_read : (text : List ℕ) (end : ℕ) → ArePricesBetween text end end []
none_read text end = record {
  within = omega arith;
  prices = tt;
  written = let none : end - end ≡ 0 = omega arith in ap (λ n. take n (drop end text)) none;
}

-- two parts side by side
range_parts : (text : List ℕ) (at front end : ℕ) → at ≤ front → front ≤ end → slice_range text at end ≡ slice_range text at front ++ slice_range text front end
range_parts text at front end low high =
    let sum : end - at ≡ front - at + (end - front) = omega (arith, low, high) in
    let there : at + (front - at) ≡ front = omega (arith, low) in
    ap (λ n. take n (drop at text)) sum ∙ take-add (front - at) (end - front) (drop at text)
    ∙ ap (λ x. slice_range text at front ++ take (end - front) x) (drop-drop (front - at) at text ∙ ap (λ n. drop n text) there)

-- from one more price on
price_front : (text part : List ℕ) (front end at price : ℕ) (numbers : List ℕ) → end < length text → part ≡ take front text → ArePricesBetween text front end numbers → IsLastPrice part at price
    → (at ≤ front) × (slice_range text at end ≡ price_text (told price) ++ more_prices (map told (reverse numbers)))
price_front text part front end at price numbers inside cut h last =
    let low : at ≤ front = omega (arith, last.within, ap length cut, length-take front text) in
    let word : slice_range text at front ≡ price_text (told price) = last_word text part front at price (omega (arith, h.within, inside)) cut last in
    (low, range_parts text at front end low h.within ∙ (λ i. word i ++ h.written i))

turned_push : (numbers : List ℕ) (price : ℕ) → map told (reverse (numbers ++ price ∷ [])) ≡ told price ∷ map told (reverse numbers)
turned_push numbers price = ap (map told) (reverse-append numbers (price ∷ []))

pub price_more : (text part : List ℕ) (front end at price : ℕ) (numbers more : List ℕ) → end < length text → part ≡ take front text → ArePricesBetween text front end numbers → IsLastPrice part at price → 0 < at → get_or text (at - 1) 0 ≡ 32
    → more ≡ numbers ++ price ∷ [] → ArePricesBetween text (at - 1) end more
price_more text part front end at price numbers more inside cut h last some space is =
    let found = price_front text part front end at price numbers inside cut h last in
    let row : map told (reverse more) ≡ told price ∷ map told (reverse numbers) = ap (λ ns. map told (reverse ns)) is ∙ turned_push numbers price in
    let back : at - 1 + 1 ≡ at = omega (arith, some) in
    let one : at - (at - 1) ≡ 1 = omega (arith, some) in
    let cut_one : drop (at - 1) text ≡ 32 ∷ drop at text = drop_more text (at - 1) 0 (omega (arith, some, found.0, h.within, inside)) ∙ (λ i. space i ∷ drop (back i) text) in
    let front_one : slice_range text (at - 1) at ≡ 32 ∷ [] = (λ i. take (one i) (cut_one i)) in
    record {
      within = omega (arith, found.0, h.within);
      prices = subst ArePrices (sym row) (last.can, h.prices);
      written = range_parts text (at - 1) at end (omega arith) (omega (arith, found.0, h.within)) ∙ (λ i. front_one i ++ found.1 i) ∙ ap more_prices (sym row);
    }

pub price_first : (text part : List ℕ) (front end at price : ℕ) (numbers more turned : List ℕ) → end < length text → part ≡ take front text → ArePricesBetween text front end numbers → IsLastPrice part at price → (0 < at → get_or text (at - 1) 0 ≡ 10)
    → more ≡ numbers ++ price ∷ [] → turned ≡ reverse more → IsShortRow text end (map told turned) at
price_first text part front end at price numbers more turned inside cut h last starts is t =
    let found = price_front text part front end at price numbers inside cut h last in
    let row : map told turned ≡ told price ∷ map told (reverse numbers) = ap (map told) t ∙ ap (λ ns. map told (reverse ns)) is ∙ turned_push numbers price in
    let written : slice_range text at end ≡ row_text (map told turned) = found.1 ∙ sym (row_text_cons (told price) (map told (reverse numbers))) ∙ ap row_text (sym row) in
    let prices : ArePrices (map told turned) = subst ArePrices (sym row) (last.can, h.prices) in
    record {
      start = record {
        within = omega (arith, found.0, h.within);
        none = no_feed text (map told turned) at end inside (omega (arith, found.0, h.within)) prices written;
        after = λ some k e. let back : at - 1 ≡ k = omega (arith, e) in subst (λ n. get_or text n 0 ≡ 10) back (starts some);
      };
      some = omega (arith, ap length row);
      prices = prices;
      written = written;
    }
  where
    no_feed : (text : List ℕ) (row : Row) (at end : ℕ) → end < length text → at ≤ end → ArePrices row → slice_range text at end ≡ row_text row → (k : ℕ) → at ≤ k → k < end → get_or text k 0 ≢ 10
    no_feed text row at end inside within prices written k low high e =
        let back : at + (k - at) ≡ k = omega (arith, low) in
        let there : get_or (slice_range text at end) (k - at) 0 ≡ get_or text k 0 = get_or-take (end - at) (drop at text) (k - at) 0 (omega (arith, low, high)) ∙ get_or-drop at text (k - at) 0 ∙ ap (λ n. get_or text n 0) back in
        let size : length (slice_range text at end) ≡ end - at = length-take (end - at) (drop at text) ∙ omega (arith, length-drop at text, inside, within) in
        free_at 10 (row_text row) (k - at) (free_row row prices) (omega (arith, ap length written, size, low, high)) (sym (ap (λ x. get_or x (k - at) 0) written) ∙ there ∙ e)
