-- What was written is read back.
use Rattle.std.proofs.Common.{◌≡◌, ◌+◌, ◌<◌, ℕ, Bool, true, false, ◌&&◌, ◌==◌, not, List, [], ◌∷◌, ◌++◌, length, map, refl, ap, ◌∙◌, append_assoc, arith}
use Rattle.std.specs.Prelude.{Option, Some, None, Ok, codes}
use Rattle.std.specs.List.{onto_first}
use Rattle.std.specs.Fmt.{decimal}
use Rattle.std.specs.Str.Parse.{AllDigits}
use Rattle.std.proofs.lemmas.Bool.{false_from_ne_true}
use Rattle.std.proofs.lemmas.Bool.Decides.{Decides-eqb}
use Rattle.std.proofs.lemmas.List.Splits.{slice_split-cons_yes, slice_split-cons_no}
use Rattle.std.proofs.lemmas.Str.Parse.{digit_at}
use Rattle.hm_base.specs.declared.plain.SpellRules.{SpellRules}
use Rattle.hm_base.specs.declared.plain.Format.{Format}
use Rattle.hm_base.specs.declared.plain.Format.TheVariants.{Full, Compact, Sparse}
use Rattle.hm_cert.specs.Certificate.{Row, IsPrice, ArePrices, AreRows, price_text, row_text, row_lines, format_text, flag_text, rules_text, head_lines, certificate_text}
use Rattle.hm_cert.specs.Reading.{pieces, words_row, line_row, line_format, and_row, with_row, rows_in, with_head, after_rules, given}
use Rattle.hm_cert.proofs.PriceTexts.{digits_of_decimal, text_price}
use Rattle.hm_cert.proofs.RuleLines.{rules_back}
use Rattle.hm_cert.proofs.LineRows.{rows_step, by_second}

-- whether no byte of a text is the mark
abbrev pub is_free : ℕ → List ℕ → Bool
is_free mark [] = true
is_free mark (b ∷ text) = not (b == mark) && is_free mark text

pub free_parts : (b mark : ℕ) (t : Bool) → not (b == mark) && t ≡ true → ((b == mark) ≡ false) × (t ≡ true)
free_parts b mark t h = by_test (b == mark) refl h
  where
    by_test : (s : Bool) → (b == mark) ≡ s → not s && t ≡ true → ((b == mark) ≡ false) × (t ≡ true)
    by_test true e f = absurd (cc)
    by_test false e f = (e, f)

-- up to the mark
pub free_cut : (mark : ℕ) (text rest : List ℕ) → is_free mark text ≡ true → pieces mark (text ++ mark ∷ rest) ≡ text ∷ pieces mark rest
free_cut mark [] rest h = slice_split-cons_yes (λ b. b == mark) mark rest ((Decides-eqb mark mark).1 refl)
free_cut mark (b ∷ text) rest h =
    let p = free_parts b mark (is_free mark text) h in
    slice_split-cons_no (λ b. b == mark) b (text ++ mark ∷ rest) p.0 ∙ ap (onto_first b) (free_cut mark text rest p.1)

pub free_whole : (mark : ℕ) (text : List ℕ) → is_free mark text ≡ true → pieces mark text ≡ text ∷ []
free_whole mark [] h = refl
free_whole mark (b ∷ text) h =
    let p = free_parts b mark (is_free mark text) h in
    slice_split-cons_no (λ b. b == mark) b text p.0 ∙ ap (onto_first b) (free_whole mark text p.1)

free_append : (mark : ℕ) (a b : List ℕ) → is_free mark a ≡ true → is_free mark b ≡ true → is_free mark (a ++ b) ≡ true
free_append mark [] b h k = k
free_append mark (x ∷ a) b h k =
    let p = free_parts x mark (is_free mark a) h in
    rw (p.0, free_append mark a b p.1 k) refl

free_flag : (set : Bool) (word : List ℕ) → is_free 10 word ≡ true → is_free 10 (flag_text set word) ≡ true
free_flag true word h = h
free_flag false word h = refl

free_rules : (rules : SpellRules) → is_free 10 (rules_text rules) ≡ true
free_rules rules =
    let frame : List ℕ = flag_text rules.frame (codes "frame") in
    let ascii : List ℕ = flag_text rules.ascii (codes "ascii") in
    let tight : List ℕ = flag_text rules.tight (codes "tight") in
    let unquote : List ℕ = flag_text rules.unquote (codes "unquote") in
    let omit : List ℕ = flag_text rules.omit (codes "omit") in
    free_append 10 (codes "rules") (omit ++ (unquote ++ (tight ++ (ascii ++ frame)))) refl
    (free_append 10 omit (unquote ++ (tight ++ (ascii ++ frame))) (free_flag rules.omit (codes "omit") refl)
    (free_append 10 unquote (tight ++ (ascii ++ frame)) (free_flag rules.unquote (codes "unquote") refl)
    (free_append 10 tight (ascii ++ frame) (free_flag rules.tight (codes "tight") refl)
    (free_append 10 ascii frame (free_flag rules.ascii (codes "ascii") refl) (free_flag rules.frame (codes "frame") refl)))))

-- no digit is a mark
pub free_digits : (mark : ℕ) (digits : List ℕ) → mark < 48 → AllDigits 10 digits → is_free mark digits ≡ true
free_digits mark [] low h = refl
free_digits mark (d ∷ digits) low h =
    let r = digit_at (d ∷ digits) 0 h (omega arith) in
    let other : (d == mark) ≡ false = false_from_ne_true _ (λ e. omega (arith, (Decides-eqb d mark).0 e, r.0)) in
    rw (other, free_digits mark digits low h.1) refl

free_price : (mark : ℕ) (price : Option ℕ) → mark < 45 → IsPrice price → is_free mark (price_text price) ≡ true
free_price mark None low h =
    let other : (45 == mark) ≡ false = false_from_ne_true _ (λ e. omega (arith, (Decides-eqb 45 mark).0 e)) in
    rw other refl
free_price mark (Some n) low h = free_digits mark (decimal n) (omega arith) (digits_of_decimal n h).0

pub free_row : (row : Row) → ArePrices row → is_free 10 (row_text row) ≡ true
free_row [] h = refl
free_row (price ∷ []) h = free_price 10 price (omega arith) h.0
free_row (price ∷ next ∷ row) h = free_append 10 (price_text price) (32 ∷ row_text (next ∷ row)) (free_price 10 price (omega arith) h.0) (free_row (next ∷ row) h.1)

-- the words of a row, and their prices
row_words : (row : Row) → 0 < length row → ArePrices row → pieces 32 (row_text row) ≡ map price_text row
row_words [] l h = absurd (omega arith)
row_words (price ∷ []) l h = free_whole 32 (price_text price) (free_price 32 price (omega arith) h.0)
row_words (price ∷ next ∷ row) l h =
    free_cut 32 (price_text price) (row_text (next ∷ row)) (free_price 32 price (omega arith) h.0)
    ∙ ap (λ words. price_text price ∷ words) (row_words (next ∷ row) (omega arith) h.1)

words_prices : (row : Row) → ArePrices row → words_row (map price_text row) ≡ Some row
words_prices [] h = refl
words_prices (price ∷ row) h = rw (text_price price h.0, words_prices row h.1) refl

pub line_back : (row : Row) → 0 < length row → ArePrices row → line_row (row_text row) ≡ Some row
line_back row l h = ap words_row (row_words row l h) ∙ words_prices row h

pub rows_back : (number : ℕ) (rows : List Row) → AreRows rows → rows_in number (row_lines rows) ≡ Ok rows
rows_back number [] h = refl
rows_back number (row ∷ rows) h =
    ap (rows_in number) (append_assoc (row_text row) (10 ∷ []) (row_lines rows))
    ∙ rows_step number (row_text row ++ 10 ∷ row_lines rows) (row_text row) (row_lines rows) (free_cut 10 (row_text row) (row_lines rows) (free_row row h.1))
    ∙ ap (λ r. with_row number r (rows_in (number + 1) (row_lines rows))) (line_back row h.0 h.1)
    ∙ ap (and_row row) (rows_back (number + 1) rows h.2)

format_cut : (format : Format) (rest : List ℕ) → pieces 10 (format_text format ++ 10 ∷ rest) ≡ format_text format ∷ pieces 10 rest
format_cut Full rest = refl
format_cut Compact rest = refl
format_cut Sparse rest = refl

format_back : (format : Format) → line_format (format_text format) ≡ Some format
format_back Full = refl
format_back Compact = refl
format_back Sparse = refl

-- a certificate's text, line by line
pub text_lines : (format : Format) (rules : SpellRules) (rest : List ℕ) → head_lines format rules ++ rest ≡ format_text format ++ 10 ∷ (rules_text rules ++ 10 ∷ rest)
text_lines format rules rest =
    append_assoc (format_text format) (10 ∷ (rules_text rules ++ 10 ∷ [])) rest
    ∙ ap (λ x. format_text format ++ 10 ∷ x) (append_assoc (rules_text rules) (10 ∷ []) rest)

pub written_is_read : (format : Format) (rules : SpellRules) (rows : List Row) → AreRows rows → given (certificate_text format rules rows) ≡ Ok (record { format = format; rules = rules; prices = rows })
written_is_read format rules rows h =
    let rest : List ℕ = row_lines rows in
    let second : List ℕ = rules_text rules ++ 10 ∷ rest in
    ap given (text_lines format rules rest)
    ∙ by_second (format_text format ++ 10 ∷ second) (format_text format) second (rules_text rules) rest format (format_cut format second) (format_back format) (free_cut 10 (rules_text rules) rest (free_rules rules))
    ∙ ap (after_rules format (pieces 10 rest)) (rules_back rules).line
    ∙ ap (with_head format rules) (rows_back 3 rows h)
