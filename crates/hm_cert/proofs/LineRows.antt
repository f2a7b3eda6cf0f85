-- Lines and their rows, read one after another.
use Rattle.std.proofs.Common.{◌≡◌, ◌+◌, ◌<◌, ℕ, Bool, true, false, cond, List, [], ◌∷◌, ◌++◌, length, refl, ap, ◌∙◌, append_assoc, arith}
use Rattle.std.specs.Prelude.{Option, Some, None, option_map, Result, Ok, Err}
use Rattle.std.proofs.lemmas.List.{append-nil}
use Rattle.hm_base.specs.declared.plain.Format.{Format}
use Rattle.hm_cert.specs.Certificate.{Row}
use Rattle.hm_cert.specs.Reading.{pieces, word_price, line_row, line_format, line_rules, and_row, with_row, rows_in, given, given_lines, after_rules}
use Rattle.hm_cert.proofs.Pieces.{one_piece}

-- prices before a row
abbrev pub after : Row → Option Row → Option Row
after done row = option_map (λ more. done ++ more) row

-- one more price before the rest of a line
pub price_more : (done : Row) (line word more : List ℕ) (price : Option ℕ) → pieces 32 line ≡ word ∷ pieces 32 more → word_price word ≡ Some price → after (done ++ price ∷ []) (line_row more) ≡ after done (line_row line)
price_more done line word more price cut is = rw (cut, is) (by_case (line_row more))
  where
    by_case : (o : Option Row) → after (done ++ price ∷ []) o ≡ after done (option_map (λ row. price ∷ row) o)
    by_case None = refl
    by_case (Some row) = ap Some (append_assoc done (price ∷ []) row)

pub price_last : (done : Row) (line : List ℕ) (price : Option ℕ) → pieces 32 line ≡ line ∷ [] → word_price line ≡ Some price → after done (line_row line) ≡ Some (done ++ price ∷ [])
price_last done line price cut is = rw (cut, is) refl

-- a word that is no price
pub no_price_more : (done : Row) (line word : List ℕ) (words : List (List ℕ)) → pieces 32 line ≡ word ∷ words → word_price word ≡ None → after done (line_row line) ≡ None
no_price_more done line word words cut is = rw (cut, is) refl

-- the first line of a text, and the lines after it
pub rows_step : (number : ℕ) (text line more : List ℕ) → pieces 10 text ≡ line ∷ pieces 10 more → rows_in number text ≡ with_row number (line_row line) (rows_in (number + 1) more)
rows_step number text line more cut =
    let next = one_piece 10 more in
    rw (cut, next.1.1) refl

-- by whether the first line is a row
pub bad_row : (number : ℕ) (text line more : List ℕ) (good : Bool) (row : Row) → pieces 10 text ≡ line ∷ pieces 10 more → line_row line ≡ cond good (Some row) None → good ≡ false → rows_in number text ≡ Err number
bad_row number text line more good row cut is bad =
    rows_step number text line more cut ∙ ap (λ r. with_row number r (rows_in (number + 1) more)) (is ∙ ap (λ b. cond b (Some row) None) bad)

pub good_row : (number : ℕ) (text line more : List ℕ) (good : Bool) (row : Row) → pieces 10 text ≡ line ∷ pieces 10 more → line_row line ≡ cond good (Some row) None → good ≡ true → rows_in number text ≡ and_row row (rows_in (number + 1) more)
good_row number text line more good row cut is well =
    rows_step number text line more cut ∙ ap (λ r. with_row number r (rows_in (number + 1) more)) (is ∙ ap (λ b. cond b (Some row) None) well)

-- a text without a line feed
pub rows_end : (number : ℕ) (text : List ℕ) → pieces 10 text ≡ text ∷ [] → 0 < length text → rows_in number text ≡ Err number
rows_end number [] cut h = absurd (omega arith)
rows_end number (b ∷ text) cut h = rw cut refl

pub rows_none : (number : ℕ) (text : List ℕ) → length text ≡ 0 → rows_in number text ≡ Ok []
rows_none number [] h = refl
rows_none number (b ∷ text) h = absurd (omega arith)

-- what a text gives, by its first two lines
pub no_first : (text : List ℕ) → pieces 10 text ≡ text ∷ [] → given text ≡ Err 1
no_first text cut = ap given_lines cut

pub bad_first : (text line more : List ℕ) → pieces 10 text ≡ line ∷ pieces 10 more → line_format line ≡ None → given text ≡ Err 1
bad_first text line more cut is = let next = one_piece 10 more in rw (cut, next.1.1, is) refl

pub no_second : (text line more : List ℕ) (format : Format) → pieces 10 text ≡ line ∷ pieces 10 more → line_format line ≡ Some format → pieces 10 more ≡ more ∷ [] → given text ≡ Err 2
no_second text line more format cut is ends = rw (cut, ends, is) refl

pub by_second : (text line more second rest : List ℕ) (format : Format) → pieces 10 text ≡ line ∷ pieces 10 more → line_format line ≡ Some format → pieces 10 more ≡ second ∷ pieces 10 rest → given text ≡ after_rules format (pieces 10 rest) (line_rules second)
by_second text line more second rest format cut is again = let next = one_piece 10 rest in rw (cut, again, is, next.1.1) refl

-- rows before those that are left
abbrev pub rows_after : List Row → Result (List Row) ℕ → Result (List Row) ℕ
rows_after done (Ok rows) = Ok (done ++ rows)
rows_after done (Err bad) = Err bad

pub row_more : (done : List Row) (row : Row) (left : Result (List Row) ℕ) → rows_after (done ++ row ∷ []) left ≡ rows_after done (and_row row left)
row_more done row (Ok rows) = ap Ok (append_assoc done (row ∷ []) rows)
row_more done row (Err bad) = refl

pub no_row_more : (done : List Row) → rows_after done (Ok []) ≡ Ok done
no_row_more done = ap Ok (append-nil done)

pub bad_more : (done : List Row) (left : Result (List Row) ℕ) (bad : ℕ) → left ≡ Err bad → rows_after done left ≡ Err bad
bad_more done left bad e = ap (rows_after done) e
