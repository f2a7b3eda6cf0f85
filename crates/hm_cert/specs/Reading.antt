-- What a text gives: the certificate whose text it is, or the number of its first bad line, counted from 1.
use Rattle.std.specs.Prelude.{ℕ, ◌+◌, ◌^◌, ◌==◌, ◌≤◌, ◌<◌, ◌≡◌, ⊤, nat_lt, Bool, true, false, ◌&&◌, ◌||◌, List, [], ◌∷◌, Option, Some, None, option_map, option_and_then, Result, Ok, Err, if◌then◌else◌, bytes_eq, codes, length}
use Rattle.std.specs.List.{slice_split}
use Rattle.std.specs.Str.Parse.{digits_value}
use Rattle.hm_base.specs.Bytes.{is_null}
use Rattle.hm_base.specs.declared.plain.SpellRules.{SpellRules}
use Rattle.hm_base.specs.declared.limits.TheConstants.{CERTIFICATE_LIMIT}
use Rattle.hm_base.specs.declared.plain.Format.{Format}
use Rattle.hm_base.specs.declared.plain.Format.TheVariants.{Full, Compact, Sparse}
use Rattle.hm_cert.specs.declared.certificate.Certificate.{Certificate}
use Rattle.hm_cert.specs.declared.lines.CertificateFault.{CertificateFault}
use Rattle.hm_cert.specs.declared.lines.CertificateFault.TheVariants.{TooLong, BadLine, OutOfMemory}
use Rattle.hm_cert.specs.Certificate.{Row, price_text, format_text, rules_text}

-- what stands before each byte `mark` of a text, and what follows the last
abbrev pub pieces : ℕ → List ℕ → List (List ℕ)
pieces mark text = slice_split (λ b. b == mark) text

-- the price whose text the word is
abbrev pub word_price : List ℕ → Option (Option ℕ)
word_price word = if bytes_eq word (price_text None) then Some None else (if bytes_eq word (price_text (Some (digits_value 10 word))) && nat_lt (digits_value 10 word) (2 ^ 63) then Some (Some (digits_value 10 word)) else None)

-- the prices of words, where each is one
abbrev pub words_row : List (List ℕ) → Option Row
words_row [] = Some []
words_row (word ∷ words) = option_and_then (λ price. option_map (λ row. price ∷ row) (words_row words)) (word_price word)

abbrev pub line_row : List ℕ → Option Row
line_row line = words_row (pieces 32 line)

-- the format whose text the line is
abbrev pub line_format : List ℕ → Option Format
line_format line = if bytes_eq line (format_text Full) then Some Full else (if bytes_eq line (format_text Compact) then Some Compact else (if bytes_eq line (format_text Sparse) then Some Sparse else None))

abbrev pub has_word : List ℕ → List (List ℕ) → Bool
has_word word [] = false
has_word word (w ∷ words) = bytes_eq w word || has_word word words

-- the rules of which each word is among these
abbrev pub words_rules : List (List ℕ) → SpellRules
words_rules words = record { omit = has_word (codes "omit") words; unquote = has_word (codes "unquote") words; tight = has_word (codes "tight") words; ascii = has_word (codes "ascii") words; frame = has_word (codes "frame") words }

-- the rules whose text the line is
abbrev pub line_rules : List ℕ → Option SpellRules
line_rules line = if bytes_eq line (rules_text (words_rules (pieces 32 line))) then Some (words_rules (pieces 32 line)) else None

-- one more row at the start
abbrev pub and_row : Row → Result (List Row) ℕ → Result (List Row) ℕ
and_row row (Ok rows) = Ok (row ∷ rows)
and_row row (Err bad) = Err bad

abbrev pub with_row : ℕ → Option Row → Result (List Row) ℕ → Result (List Row) ℕ
with_row number None rows = Err number
with_row number (Some row) rows = and_row row rows

-- the rows of lines, of which the first has this number; after the last line feed there must be nothing
abbrev pub lines_rows : ℕ → List (List ℕ) → Result (List Row) ℕ
lines_rows number [] = Ok []
lines_rows number (line ∷ []) = if is_null line then Ok [] else Err number
lines_rows number (line ∷ next ∷ lines) = with_row number (line_row line) (lines_rows (number + 1) (next ∷ lines))

-- the rows of a text, whose first line has this number
abbrev pub rows_in : ℕ → List ℕ → Result (List Row) ℕ
rows_in number text = lines_rows number (pieces 10 text)

abbrev pub with_head : Format → SpellRules → Result (List Row) ℕ → Result Certificate ℕ
with_head format rules (Ok rows) = Ok (record { format = format; rules = rules; prices = rows })
with_head format rules (Err bad) = Err bad

-- the lines from the third on, by what the second one is
abbrev pub after_rules : Format → List (List ℕ) → Option SpellRules → Result Certificate ℕ
after_rules format lines None = Err 2
after_rules format lines (Some rules) = with_head format rules (lines_rows 3 lines)

-- the lines from the second on, by what the first one is
abbrev pub after_format : List (List ℕ) → Option Format → Result Certificate ℕ
after_format lines None = Err 1
after_format [] (Some format) = Err 2
after_format (line ∷ []) (Some format) = Err 2
after_format (line ∷ next ∷ lines) (Some format) = after_rules format (next ∷ lines) (line_rules line)

abbrev pub given_lines : List (List ℕ) → Result Certificate ℕ
given_lines [] = Err 1
given_lines (line ∷ []) = Err 1
given_lines (line ∷ next ∷ lines) = after_format (next ∷ lines) (line_format line)

-- the certificate whose text this is, or the number of the first bad line
abbrev pub given : List ℕ → Result Certificate ℕ
given text = given_lines (pieces 10 text)

-- what an answer on bytes says
abbrev pub ReadsAs : List ℕ → Result Certificate CertificateFault → Type 0
ReadsAs bytes (Ok certificate) = (length bytes ≤ CERTIFICATE_LIMIT) × (given bytes ≡ Ok certificate)
ReadsAs bytes (Err TooLong) = CERTIFICATE_LIMIT < length bytes
ReadsAs bytes (Err (BadLine line)) = (length bytes ≤ CERTIFICATE_LIMIT) × (given bytes ≡ Err line)
ReadsAs bytes (Err OutOfMemory) = ⊤

-- why bytes have no first two lines
abbrev pub IsBadHead : List ℕ → CertificateFault → Type 0
IsBadHead bytes TooLong = CERTIFICATE_LIMIT < length bytes
IsBadHead bytes (BadLine line) = (length bytes ≤ CERTIFICATE_LIMIT) × (given bytes ≡ Err line)
IsBadHead bytes OutOfMemory = ⊥

-- what an answer to whether there is one more row says of the rows that are left, by that row and the rows after it
abbrev pub IsNext : Result (List Row) ℕ → Row → Result (List Row) ℕ → Result Bool CertificateFault → Type 0
IsNext left row after (Ok true) = left ≡ and_row row after
IsNext left row after (Ok false) = left ≡ Ok []
IsNext left row after (Err (BadLine line)) = left ≡ Err line
IsNext left row after (Err TooLong) = ⊥
IsNext left row after (Err OutOfMemory) = ⊤

-- what an answer to whether one more row was skipped says of the rows that are left, by those after it
abbrev pub IsPassed : Result (List Row) ℕ → Result (List Row) ℕ → Result Bool CertificateFault → Type 0
IsPassed left after (Ok true) = (row : Row) × (left ≡ and_row row after)
IsPassed left after (Ok false) = left ≡ Ok []
IsPassed left after (Err (BadLine line)) = left ≡ Err line
IsPassed left after (Err TooLong) = ⊥
IsPassed left after (Err OutOfMemory) = ⊤

-- what an answer on all rows that are left says
abbrev pub RowsAre : Result (List Row) ℕ → Result (List Row) CertificateFault → Type 0
RowsAre left (Ok rows) = left ≡ Ok rows
RowsAre left (Err (BadLine line)) = left ≡ Err line
RowsAre left (Err TooLong) = ⊥
RowsAre left (Err OutOfMemory) = ⊤
