-- What was read is what was written.
use Rattle.std.proofs.Common.{◌≡◌, ◌+◌, ◌<◌, ℕ, suc, Bool, true, false, cond, List, [], ◌∷◌, ◌++◌, length, map, refl, sym, ap, ◌∙◌, subst, append_assoc, arith}
use Rattle.std.specs.Prelude.{Option, Some, None, option_map, option_and_then, Result, Ok, Err, bytes_eq}
use Rattle.std.specs.List.{join_with_byte}
use Rattle.std.proofs.lemmas.List.Splits.{join_with_byte-slice_split}
use Rattle.std.proofs.lemmas.Slice.Eq.{bytes_eq-Decides}
use Rattle.std.proofs.lemmas.List.{length-map}
use Rattle.hm_base.specs.declared.plain.SpellRules.{SpellRules}
use Rattle.hm_base.specs.declared.plain.Format.{Format}
use Rattle.hm_base.specs.declared.plain.Format.TheVariants.{Full, Compact, Sparse}
use Rattle.hm_cert.specs.declared.certificate.Certificate.{Certificate}
use Rattle.hm_cert.specs.Certificate.{Row, ArePrices, AreRows, price_text, row_text, row_lines, format_text, rules_text, certificate_text}
use Rattle.hm_cert.specs.Layout.{told}
use Rattle.hm_cert.specs.Reading.{pieces, word_price, words_row, line_row, line_format, line_rules, and_row, with_row, lines_rows, rows_in, with_head, after_rules, after_format, given_lines, given}
use Rattle.hm_cert.proofs.Pieces.{one_piece}
use Rattle.hm_cert.proofs.PriceTexts.{price_back}
use Rattle.hm_cert.proofs.RuleLines as rule
use Rattle.hm_cert.proofs.Written.{text_lines}

-- words and the row whose texts they are
words_back : (words : List (List ℕ)) (row : Row) → words_row words ≡ Some row → (map price_text row ≡ words) × ArePrices row
words_back [] row h = let is : [] ≡ row = cc in subst (λ r. (map price_text r ≡ []) × ArePrices r) is (refl, tt)
words_back (word ∷ words) row h = by_price (word_price word) refl (words_back words) h
  where
    by_rest : (price : Option ℕ) → word_price word ≡ Some price → (o : Option Row) → words_row words ≡ o → ((r : Row) → words_row words ≡ Some r → (map price_text r ≡ words) × ArePrices r) → option_map (λ r. price ∷ r) o ≡ Some row → (map price_text row ≡ word ∷ words) × ArePrices row
    by_rest price e None f g h = absurd (cc)
    by_rest price e (Some rest) f g h =
        let is : price ∷ rest ≡ row = cc in
        let here = price_back word price e in
        let more = g rest f in
        subst (λ r. (map price_text r ≡ word ∷ words) × ArePrices r) is ((λ i. here.0 i ∷ more.0 i), (here.1, more.1))

    by_price : (o : Option (Option ℕ)) → word_price word ≡ o → ((r : Row) → words_row words ≡ Some r → (map price_text r ≡ words) × ArePrices r) → option_and_then (λ price. option_map (λ r. price ∷ r) (words_row words)) o ≡ Some row → (map price_text row ≡ word ∷ words) × ArePrices row
    by_price None e g h = absurd (cc)
    by_price (Some price) e g h = by_rest price e (words_row words) refl g h

-- a line and its row
line_back : (line : List ℕ) (row : Row) → line_row line ≡ Some row → (row_text row ≡ line) × (0 < length row) × ArePrices row
line_back line row h =
    let words = words_back (pieces 32 line) row h in
    let one = one_piece 32 line in
    let text : row_text row ≡ line = ap (join_with_byte 32) words.0 ∙ join_with_byte-slice_split 32 line in
    (text, some_prices row (ap length words.0 ∙ ap length one.1.1), words.1)
  where
    some_prices : (r : Row) {k : ℕ} → length (map price_text r) ≡ suc k → 0 < length r
    some_prices [] e = absurd (omega (arith, e))
    some_prices (price ∷ r) e = omega arith

-- the numbers of a row that was read
pub row_prices : (line numbers : List ℕ) (good : Bool) → line_row line ≡ cond good (Some (map told numbers)) None → good ≡ true → (0 < length numbers) × ArePrices (map told numbers)
row_prices line numbers good is well =
    let back = line_back line (map told numbers) (is ∙ ap (λ b. cond b (Some (map told numbers)) None) well) in
    (omega (arith, back.1, length-map numbers told), back.2)

-- lines and the rows whose text they are
pub rows_back : (number : ℕ) (lines : List (List ℕ)) (rows : List Row) → lines_rows number lines ≡ Ok rows → (row_lines rows ≡ join_with_byte 10 lines) × AreRows rows
rows_back number [] rows h = let is : [] ≡ rows = cc in subst (λ r. (row_lines r ≡ []) × AreRows r) is (refl, tt)
rows_back number ([] ∷ []) rows h = let is : [] ≡ rows = cc in subst (λ r. (row_lines r ≡ []) × AreRows r) is (refl, tt)
rows_back number ((b ∷ line) ∷ []) rows h = absurd (cc)
rows_back number (line ∷ next ∷ lines) rows h = by_row (line_row line) refl (rows_back (number + 1) (next ∷ lines)) h
  where
    by_rest : (row : Row) → line_row line ≡ Some row → (o : Result (List Row) ℕ) → lines_rows (number + 1) (next ∷ lines) ≡ o → ((r : List Row) → lines_rows (number + 1) (next ∷ lines) ≡ Ok r → (row_lines r ≡ join_with_byte 10 (next ∷ lines)) × AreRows r) → and_row row o ≡ Ok rows → (row_lines rows ≡ line ++ 10 ∷ join_with_byte 10 (next ∷ lines)) × AreRows rows
    by_rest row e (Err bad) f g h = absurd (cc)
    by_rest row e (Ok rest) f g h =
        let is : row ∷ rest ≡ rows = cc in
        let here = line_back line row e in
        let more = g rest f in
        subst (λ r. (row_lines r ≡ line ++ 10 ∷ join_with_byte 10 (next ∷ lines)) × AreRows r) is
        (append_assoc (row_text row) (10 ∷ []) (row_lines rest) ∙ ap (λ x. x ++ 10 ∷ row_lines rest) here.0 ∙ ap (λ x. line ++ 10 ∷ x) more.0, (here.1, here.2, more.1))

    by_row : (o : Option Row) → line_row line ≡ o → ((r : List Row) → lines_rows (number + 1) (next ∷ lines) ≡ Ok r → (row_lines r ≡ join_with_byte 10 (next ∷ lines)) × AreRows r) → with_row number o (lines_rows (number + 1) (next ∷ lines)) ≡ Ok rows → (row_lines rows ≡ line ++ 10 ∷ join_with_byte 10 (next ∷ lines)) × AreRows rows
    by_row None e g h = absurd (cc)
    by_row (Some row) e g h = by_rest row e (lines_rows (number + 1) (next ∷ lines)) refl g h

-- rows that were read can be written
pub rows_are : (number : ℕ) (text : List ℕ) (rows : List Row) → rows_in number text ≡ Ok rows → AreRows rows
rows_are number text rows h = (rows_back number (pieces 10 text) rows h).1

format_back : (line : List ℕ) (format : Format) → line_format line ≡ Some format → format_text format ≡ line
format_back line format h = by_one (bytes_eq line (format_text Full)) refl h
  where
    by_three : (b : Bool) → bytes_eq line (format_text Sparse) ≡ b → cond b (Some Sparse) None ≡ Some format → format_text format ≡ line
    by_three true e h = let is : Sparse ≡ format = cc in ap format_text (sym is) ∙ sym ((bytes_eq-Decides line (format_text Sparse)).0 e)
    by_three false e h = absurd (cc)

    by_two : (b : Bool) → bytes_eq line (format_text Compact) ≡ b → cond b (Some Compact) (cond (bytes_eq line (format_text Sparse)) (Some Sparse) None) ≡ Some format → format_text format ≡ line
    by_two true e h = let is : Compact ≡ format = cc in ap format_text (sym is) ∙ sym ((bytes_eq-Decides line (format_text Compact)).0 e)
    by_two false e h = by_three (bytes_eq line (format_text Sparse)) refl h

    by_one : (b : Bool) → bytes_eq line (format_text Full) ≡ b → cond b (Some Full) (cond (bytes_eq line (format_text Compact)) (Some Compact) (cond (bytes_eq line (format_text Sparse)) (Some Sparse) None)) ≡ Some format → format_text format ≡ line
    by_one true e h = let is : Full ≡ format = cc in ap format_text (sym is) ∙ sym ((bytes_eq-Decides line (format_text Full)).0 e)
    by_one false e h = by_two (bytes_eq line (format_text Compact)) refl h

-- all lines, and the certificate whose text they are
abbrev IsText : List (List ℕ) → Certificate → Type 0
IsText lines c = (certificate_text c.format c.rules c.prices ≡ join_with_byte 10 lines) × AreRows c.prices

by_rows : (first second : List ℕ) (next : List ℕ) (lines : List (List ℕ)) (format : Format) (rules : SpellRules) (o : Result (List Row) ℕ) (c : Certificate) → format_text format ≡ first → second ≡ rules_text rules → lines_rows 3 (next ∷ lines) ≡ o → with_head format rules o ≡ Ok c → IsText (first ∷ second ∷ next ∷ lines) c
by_rows first second next lines format rules (Err bad) c f r e h = absurd (cc)
by_rows first second next lines format rules (Ok rows) c f r e h =
    let back = rows_back 3 (next ∷ lines) rows e in
    let rest : List ℕ = join_with_byte 10 (next ∷ lines) in
    let made : Certificate = record { format = format; rules = rules; prices = rows } in
    let is : made ≡ c = cc in
    subst (IsText (first ∷ second ∷ next ∷ lines)) is
    (text_lines format rules (row_lines rows) ∙ ap (λ x. x ++ 10 ∷ (rules_text rules ++ 10 ∷ row_lines rows)) f ∙ ap (λ x. first ++ 10 ∷ (x ++ 10 ∷ row_lines rows)) (sym r) ∙ ap (λ x. first ++ 10 ∷ (second ++ 10 ∷ x)) back.0, back.1)

by_rules : (first second next : List ℕ) (lines : List (List ℕ)) (format : Format) (o : Option SpellRules) (c : Certificate) → format_text format ≡ first → line_rules second ≡ o → after_rules format (next ∷ lines) o ≡ Ok c → IsText (first ∷ second ∷ next ∷ lines) c
by_rules first second next lines format None c f e h = absurd (cc)
by_rules first second next lines format (Some rules) c f e h = by_rows first second next lines format rules (lines_rows 3 (next ∷ lines)) c f (rule.line_back second rules e) refl h

by_format : (first : List ℕ) (lines : List (List ℕ)) (o : Option Format) (c : Certificate) → line_format first ≡ o → after_format lines o ≡ Ok c → IsText (first ∷ lines) c
by_format first lines None c e h = absurd (cc)
by_format first [] (Some format) c e h = absurd (cc)
by_format first (second ∷ []) (Some format) c e h = absurd (cc)
by_format first (second ∷ next ∷ lines) (Some format) c e h = by_rules first second next lines format (line_rules second) c (format_back first format e) refl h

lines_back : (lines : List (List ℕ)) (c : Certificate) → given_lines lines ≡ Ok c → IsText lines c
lines_back [] c h = absurd (cc)
lines_back (first ∷ []) c h = absurd (cc)
lines_back (first ∷ second ∷ lines) c h = by_format first (second ∷ lines) (line_format first) c refl h

pub read_is_written : (text : List ℕ) (certificate : Certificate) → given text ≡ Ok certificate → (certificate_text certificate.format certificate.rules certificate.prices ≡ text) × AreRows certificate.prices
read_is_written text c h =
    let back = lines_back (pieces 10 text) c h in
    (back.0 ∙ join_with_byte-slice_split 10 text, back.1)
