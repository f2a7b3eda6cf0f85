-- Prices of kept hundreds, from their end.
use Rattle.std.proofs.Common.{◌≡◌, ◌+◌, ◌-◌, ◌*◌, ◌/◌, ◌%◌, ◌^◌, ◌<◌, ◌≤◌, ℕ, suc, List, [], ◌∷◌, ◌++◌, length, get_or, take, drop, set, map, reverse, refl, sym, ap, ◌∙◌, append_assoc, arith, length-append, length-take}
use Rattle.std.specs.Fmt.{decimal}
use Rattle.std.specs.Prelude.{Option}
use Rattle.std.proofs.lemmas.Fmt.{decimal_digit, decimal_nonempty, length-decimal-le}
use Rattle.std.proofs.lemmas.List.{length-map, length-reverse, length-set, reverse-append, take-append-drop, take-append-le, take-take, take_at, take_more_set}
use Rattle.std.proofs.Math.Seq.{take-append-add, take-set-lt}
use Rattle.hm_cert.specs.Certificate.{price_text, row_line, row_text}
use Rattle.hm_cert.specs.Hundreds.{HasHundreds, IsKept, IsPut, ahead}
use Rattle.hm_cert.specs.Layout.{told}
use Rattle.hm_cert.proofs.PriceTexts.{told_number}
use Rattle.hm_cert.proofs.Texts.{cut_at, turned_digit, turned_number, turned_pair}

-- ---- The digits of a number

-- a number below 10^9 has at most seven digits before the last two
few_digits : (number : ℕ) → number < 10 ^ 9 → length (decimal (number / 100)) ≤ 7
few_digits number low = length-decimal-le 7 (number / 100) (omega arith) (omega (arith, low)) (omega (arith, low))

-- there is room for those that are left
pub digit_fits : (number len rest : ℕ) (text : List ℕ) → number < 10 ^ 9 → rest < 2 ^ 64 → length text ≡ 16 → take len text ++ reverse (decimal rest) ≡ 32 ∷ 48 ∷ 48 ∷ reverse (decimal (number / 100)) → len < 10
digit_fits number len rest text low small size is =
    let sum : length (take len text ++ reverse (decimal rest)) ≡ length (take len text) + length (reverse (decimal rest)) = length-append (take len text) (reverse (decimal rest)) in
    omega (arith, ap length is, sum, length-take len text, size, length-reverse (decimal rest), length-reverse (decimal (number / 100)), decimal_nonempty rest small, few_digits number low)

-- one more digit
pub digit_more : (text all : List ℕ) (len rest : ℕ) → 10 ≤ rest → rest < 2 ^ 64 → len < length text → take len text ++ reverse (decimal rest) ≡ all
    → take (len + 1) (set text len (48 + rest % 10)) ++ reverse (decimal (rest / 10)) ≡ all
digit_more text all len rest some low inside is =
    ap (λ x. x ++ reverse (decimal (rest / 10))) (take_more_set text len (48 + rest % 10) inside)
    ∙ append_assoc (take len text) ((48 + rest % 10) ∷ []) (reverse (decimal (rest / 10)))
    ∙ ap (λ x. take len text ++ x) (sym (turned_number rest some low))
    ∙ is

-- the last one
pub kept_of : (number len rest : ℕ) (text : List ℕ) → 100 ≤ number → number < 10 ^ 9 → rest < 10 → length text ≡ 16 → take len text ++ reverse (decimal rest) ≡ 32 ∷ 48 ∷ 48 ∷ reverse (decimal (number / 100))
    → IsKept (number / 100 * 100) (set text len (48 + rest)) (len + 1)
kept_of number len rest text some low last size is =
    let same : number / 100 ≡ number / 100 * 100 / 100 = omega arith in
    let fits : len < 10 = digit_fits number len rest text low (omega (arith, last)) size is in
    record {
      some = omega (arith, some);
      small = omega (arith, low);
      even = omega arith;
      few = omega (arith, fits);
      written =
          take_more_set text len (48 + rest) (omega (arith, fits, size))
          ∙ ap (λ x. take len text ++ x) (sym (turned_digit rest last))
          ∙ is
          ∙ ap (λ n. 32 ∷ 48 ∷ 48 ∷ reverse (decimal n)) same;
    }

pub kept_hundred : IsKept 100 (32 ∷ 48 ∷ 48 ∷ 49 ∷ 32 ∷ 32 ∷ 32 ∷ 32 ∷ 32 ∷ 32 ∷ 32 ∷ 32 ∷ 32 ∷ 32 ∷ 32 ∷ 32 ∷ []) 4
kept_hundred =
    let one : decimal 1 ≡ 49 ∷ [] = decimal_digit 1 (omega arith) in
    record {
      some = omega arith;
      small = omega arith;
      even = refl;
      few = omega arith;
      written = ap (λ d. 32 ∷ 48 ∷ 48 ∷ reverse d) (sym one);
    }

-- ---- The last two digits of a price

-- a price of the hundreds of a base
near : (base price len : ℕ) (text : List ℕ) → IsKept base text len → HasHundreds base price → reverse (price_text (told price)) ≡ (48 + (price - base) % 10) ∷ (48 + (price - base) / 10) ∷ reverse (decimal (base / 100))
near base price len text h has =
    let last : price % 100 ≡ price - base = omega (arith, h.even, has.low, has.high) in
    let same : price / 100 ≡ base / 100 = omega (arith, h.even, has.low, has.high) in
    ap (λ p. reverse (price_text p)) (told_number price (omega (arith, has.high, h.small)))
    ∙ turned_pair price (omega (arith, h.some, has.low)) (omega (arith, has.high, h.small))
    ∙ (λ i. (48 + last i % 10) ∷ (48 + last i / 10) ∷ reverse (decimal (same i)))

-- a price of kept hundreds at the start of a line
pub put_is : (base price len : ℕ) (text line : List ℕ) → IsKept base text len → length text ≡ 16 → HasHundreds base price → 16 ≤ length line
    → IsPut (set (set (text ++ drop 16 line) 1 (48 + (price - base) % 10)) 2 (48 + (price - base) / 10)) price len
put_is base price len text line h size has room =
    let digits : List ℕ = reverse (decimal (base / 100)) in
    let a : ℕ = 48 + (price - base) % 10 in
    let b : ℕ = 48 + (price - base) / 10 in
    let rest : List ℕ = drop len text ++ drop 16 line in
    let cut : text ≡ 32 ∷ 48 ∷ 48 ∷ (digits ++ drop len text) = sym (take-append-drop len text) ∙ ap (λ x. x ++ drop len text) h.written in
    let all : text ++ drop 16 line ≡ 32 ∷ 48 ∷ 48 ∷ (digits ++ rest) = ap (λ x. x ++ drop 16 line) cut ∙ ap (λ x. 32 ∷ 48 ∷ 48 ∷ x) (append_assoc digits (drop len text) (drop 16 line)) in
    let wide : len ≡ suc (suc (suc (length digits))) = omega (arith, ap length h.written, length-take len text, size, h.few) in
    let many : length (text ++ drop 16 line) ≡ length text + length (drop 16 line) = length-append text (drop 16 line) in
    let first : length (set (text ++ drop 16 line) 1 a) ≡ length (text ++ drop 16 line) = length-set (text ++ drop 16 line) 1 a in
    let second : length (set (set (text ++ drop 16 line) 1 a) 2 b) ≡ length (set (text ++ drop 16 line) 1 a) = length-set (set (text ++ drop 16 line) 1 a) 2 b in
    record {
      few = h.few;
      within = omega (arith, second, first, many, size, h.few);
      written =
          (λ i. take (wide i) (set (set (all i) 1 a) 2 b))
          ∙ ap (λ x. 32 ∷ a ∷ b ∷ x) (take_at digits rest (length digits) refl)
          ∙ ap (λ x. 32 ∷ x) (sym (near base price len text h has));
    }

-- ---- Rows

-- one more price
pub ahead_step : (row : List ℕ) (k : ℕ) → k < length row → reverse (ahead (map told (drop k row))) ≡ reverse (ahead (map told (drop (k + 1) row))) ++ 32 ∷ reverse (price_text (told (get_or row k 0)))
ahead_step row k h =
    let price : List ℕ = price_text (told (get_or row k 0)) in
    let rest : List ℕ = ahead (map told (drop (k + 1) row)) in
    ap (λ xs. reverse (ahead (map told xs))) (cut_at row k 0 h)
    ∙ reverse-append price (32 ∷ rest)
    ∙ ap (λ x. x ++ reverse price) (reverse-append (32 ∷ []) rest)
    ∙ append_assoc (reverse rest) (32 ∷ []) (reverse price)

-- prices with a space after each are those with a space between, and one at the end
pub ahead_text : (row : List (Option ℕ)) → 0 < length row → ahead row ≡ row_text row ++ 32 ∷ []
ahead_text [] h = absurd (omega (arith, h))
ahead_text (price ∷ []) h = refl
ahead_text (price ∷ next ∷ row) h =
    ap (λ x. price_text price ++ 32 ∷ x) (ahead_text (next ∷ row) (omega arith))
    ∙ sym (append_assoc (price_text price) (32 ∷ row_text (next ∷ row)) (32 ∷ []))

pub turned_ahead : (row : List (Option ℕ)) → 0 < length row → reverse (ahead row) ≡ 32 ∷ reverse (row_text row)
turned_ahead row h = ap reverse (ahead_text row h) ∙ reverse-append (row_text row) (32 ∷ [])

-- one more price in a line
pub price_put : (row line part more : List ℕ) (at len k j : ℕ) → at ≤ length line → suc j ≡ k → j < length row → take at line ≡ reverse (ahead (map told (drop k row))) → IsPut part (get_or row j 0) len
    → take (at + len) (take at line ++ (part ++ more)) ≡ reverse (ahead (map told (drop j row)))
price_put row line part more at len k j inside next has front h =
    let size : length (take at line) ≡ at = length-take at line ∙ omega (arith, inside) in
    let here : k ≡ j + 1 = omega (arith, next) in
    ap (λ n. take (n + len) (take at line ++ (part ++ more))) (sym size)
    ∙ take-append-add (take at line) (part ++ more) len
    ∙ (λ i. (front ∙ ap (λ n. reverse (ahead (map told (drop n row)))) here) i ++ (take-append-le len part more h.within ∙ h.written) i)
    ∙ sym (ahead_step row j has)

pub price_room : (line part more : List ℕ) (at len k j : ℕ) → suc j ≡ k → at + 16 * k ≤ length line → length part ≡ length line - at → len ≤ 16 → at + len + 16 * j ≤ length (take at line ++ (part ++ more))
price_room line part more at len k j next room size few =
    let first : length (take at line ++ (part ++ more)) ≡ length (take at line) + length (part ++ more) = length-append (take at line) (part ++ more) in
    omega (arith, next, room, size, few, first, length-append part more, length-take at line)

-- all prices
pub line_put : (row line : List ℕ) (at k : ℕ) → 0 < length row → k ≤ 0 → take at line ≡ reverse (ahead (map told (drop k row))) → take at (set line 0 10) ≡ 10 ∷ reverse (row_text (map told row))
line_put row line at k some last is =
    let none : k ≡ 0 = omega (arith, last) in
    let many : length (map told row) ≡ length row = length-map row told in
    let text : take at line ≡ 32 ∷ reverse (row_text (map told row)) = is ∙ ap (λ n. reverse (ahead (map told (drop n row)))) none ∙ turned_ahead (map told row) (omega (arith, some, many)) in
    take-set-lt at line 0 10 (omega (arith, ap length text, length-take at line)) ∙ ap (λ l. set l 0 10) text

-- a line in the room after others
pub line_added : (row old mid whole line more rest : List ℕ) (start len all : ℕ) → whole ≡ mid → take start mid ≡ old → start ≤ length mid → len ≤ length line → start + len ≤ all → take len line ≡ 10 ∷ reverse (row_text (map told row))
    → take (start + len) (take all ((take start whole ++ (line ++ more)) ++ rest)) ≡ old ++ reverse (row_line (map told row))
line_added row old mid whole line more rest start len all same front inside within fits is =
    let put : List ℕ = take start whole ++ (line ++ more) in
    let size : length put ≡ length (take start whole) + length (line ++ more) = length-append (take start whole) (line ++ more) in
    let many : start ≡ length (take start whole) = omega (arith, length-take start whole, ap length same, inside) in
    take-take (start + len) all (put ++ rest) fits
    ∙ take-append-le (start + len) put rest (omega (arith, size, many, length-append line more, within))
    ∙ ap (λ n. take (n + len) put) many
    ∙ take-append-add (take start whole) (line ++ more) len
    ∙ (λ i. (ap (take start) same ∙ front) i ++ (take-append-le len line more within ∙ is ∙ sym (reverse-append (row_text (map told row)) (10 ∷ []))) i)
