-- Lines of prices of few digits, from the start.
use Rattle.std.proofs.Common.{◌≡◌, ◌+◌, ◌^◌, ◌<◌, ◌≤◌, ℕ, true, List, [], ◌∷◌, ◌++◌, get_or, length, take, drop, refl, sym, ap, ◌∙◌, append_assoc, arith, length-append, length-drop, length-take}
use Rattle.std.specs.Prelude.{Option, Some}
use Rattle.std.specs.Char.{is_ascii_digit}
use Rattle.std.specs.Str.Parse.{digits_value}
use Rattle.std.proofs.Math.Seq.{take-add}
use Rattle.std.proofs.lemmas.Fmt.{decimal-digits_value}
use Rattle.std.proofs.lemmas.List.{get_or-drop, take_more, take-append-drop}
use Rattle.std.proofs.lemmas.Str.Parse.{digits_value_short}
use Rattle.hm_cert.specs.Certificate.{Row, IsPrice, ArePrices, price_text, row_text}
use Rattle.hm_cert.specs.Reading.{and_row, rows_in, with_row}
use Rattle.hm_cert.specs.Short.{AreDigits, IsShortLine, IsShortWord}
use Rattle.hm_cert.specs.Words.{HasNumberForm}
use Rattle.hm_cert.proofs.LineRows.{rows_step}
use Rattle.hm_cert.proofs.PriceTexts.{digit_more, own}
use Rattle.hm_cert.proofs.Written.{free_cut, free_row, line_back}

-- ---- A word

pub no_digits : (text : List ℕ) → AreDigits text 0
no_digits text = record { within = omega arith; digits = tt }

pub digits_more : (text : List ℕ) (len : ℕ) → len < length text → AreDigits text len → true ≡ is_ascii_digit (get_or text len 0) → AreDigits text (len + 1)
digits_more text len inside h e = record {
  within = omega (arith, inside);
  digits = (digit_more text len (digits_value 10 (take len text)) _ inside (record { digits = h.digits; value = refl }) e refl).1.digits;
}

pub short_number : (text : List ℕ) (len : ℕ) → AreDigits text len → HasNumberForm (take len text) → len ≤ 18 → len < length text → IsShortWord text len
short_number text len h form few inside =
    let small : digits_value 10 (take len text) < 10 ^ 18 = digits_value_short own (take len text) 18 h.digits (omega (arith, length-take len text, few)) in
    record {
      inside = inside;
      price = Some (digits_value 10 (take len text));
      can = omega (arith, small);
      written = sym (decimal-digits_value own (take len text) h.digits form.0 form.2 (omega (arith, small)));
    }

-- ---- The words of a line

-- prices, each before a space
abbrev pub front_text : Row → List ℕ
front_text [] = []
front_text (price ∷ row) = price_text price ++ 32 ∷ front_text row

-- a text begins with prices up to a place, each before a space
pub record AreShort (text : List ℕ) (at : ℕ) : Type 0 where
  pub within : at ≤ length text
  pub row : Row
  pub prices : ArePrices row
  pub written : take at text ≡ front_text row

pub none_short : (text : List ℕ) → AreShort text 0
none_short text = record { within = omega arith; row = []; prices = tt; written = refl }

one_more : (row : Row) (price : Option ℕ) → ArePrices row → IsPrice price → ArePrices (row ++ price ∷ [])
one_more [] price h can = (can, tt)
one_more (p ∷ row) price h can = (h.0, one_more row price h.1 can)

front_more : (row : Row) (price : Option ℕ) → front_text (row ++ price ∷ []) ≡ front_text row ++ (price_text price ++ 32 ∷ [])
front_more [] price = refl
front_more (p ∷ row) price = ap (λ x. price_text p ++ 32 ∷ x) (front_more row price) ∙ sym (append_assoc (price_text p) (32 ∷ front_text row) (price_text price ++ 32 ∷ []))

front_last : (row : Row) (price : Option ℕ) → row_text (row ++ price ∷ []) ≡ front_text row ++ price_text price
front_last [] price = refl
front_last (p ∷ []) price = sym (append_assoc (price_text p) (32 ∷ []) (price_text price))
front_last (p ∷ q ∷ row) price = ap (λ x. price_text p ++ 32 ∷ x) (front_last (q ∷ row) price) ∙ sym (append_assoc (price_text p) (32 ∷ front_text (q ∷ row)) (price_text price))

-- up to one byte after the next word
word_more : (text rest : List ℕ) (at len byte : ℕ) (h : IsShortWord rest len) → rest ≡ drop at text → get_or text (at + len) 0 ≡ byte → take (at + len + 1) text ≡ take at text ++ (price_text h.price ++ byte ∷ [])
word_more text rest at len byte h is e =
    let sum : at + len + 1 ≡ at + (len + 1) = omega arith in
    let there : get_or rest len 0 ≡ byte = ap (λ r. get_or r len 0) is ∙ get_or-drop at text len 0 ∙ e in
    ap (λ n. take n text) sum ∙ take-add at (len + 1) text ∙ ap (λ r. take at text ++ take (len + 1) r) (sym is)
    ∙ ap (λ x. take at text ++ x) (take_more rest len 0 h.inside ∙ (λ i. h.written i ++ there i ∷ []))

word_inside : (text rest : List ℕ) (at len : ℕ) → at ≤ length text → len < length rest → rest ≡ drop at text → at + len < length text
word_inside text rest at len within inside is = omega (arith, within, inside, ap length is, length-drop at text)

pub end_inside : (text rest : List ℕ) (at len : ℕ) → AreShort text at → IsShortWord rest len → rest ≡ drop at text → at + len < length text
end_inside text rest at len h word is = word_inside text rest at len h.within word.inside is

pub words_more : (text rest : List ℕ) (at len : ℕ) → AreShort text at → IsShortWord rest len → rest ≡ drop at text → get_or text (at + len) 0 ≡ 32 → AreShort text (at + len + 1)
words_more text rest at len h word is e = record {
  within = let inside = end_inside text rest at len h word is in omega (arith, inside);
  row = h.row ++ word.price ∷ [];
  prices = one_more h.row word.price h.prices word.can;
  written = word_more text rest at len 32 word is e ∙ ap (λ x. x ++ (price_text word.price ++ 32 ∷ [])) h.written ∙ sym (front_more h.row word.price);
}

pub words_last : (text rest : List ℕ) (at len : ℕ) → AreShort text at → IsShortWord rest len → rest ≡ drop at text → get_or text (at + len) 0 ≡ 10 → IsShortLine text (at + len)
words_last text rest at len h word is e = record {
  inside = end_inside text rest at len h word is;
  row = h.row ++ word.price ∷ [];
  some = omega (arith, length-append h.row (word.price ∷ []));
  prices = one_more h.row word.price h.prices word.can;
  written =
      word_more text rest at len 10 word is e
      ∙ ap (λ x. x ++ (price_text word.price ++ 10 ∷ [])) h.written
      ∙ sym (append_assoc (front_text h.row) (price_text word.price) (10 ∷ []))
      ∙ ap (λ x. x ++ 10 ∷ []) (sym (front_last h.row word.price));
}

-- ---- The line

pub line_passed : (number : ℕ) (text : List ℕ) (end : ℕ) (h : IsShortLine text end) → rows_in number text ≡ and_row h.row (rows_in (number + 1) (drop (end + 1) text))
line_passed number text end h =
    let rest : List ℕ = drop (end + 1) text in
    let whole : text ≡ row_text h.row ++ 10 ∷ rest = sym (take-append-drop (end + 1) text) ∙ ap (λ x. x ++ rest) h.written ∙ append_assoc (row_text h.row) (10 ∷ []) rest in
    ap (rows_in number) whole
    ∙ rows_step number (row_text h.row ++ 10 ∷ rest) (row_text h.row) rest (free_cut 10 (row_text h.row) rest (free_row h.row h.prices))
    ∙ ap (λ r. with_row number r (rows_in (number + 1) rest)) (line_back h.row h.some h.prices)
