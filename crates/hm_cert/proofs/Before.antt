-- Rows in the lines of a certificate that was read: how many there are, and the row before a place.
use Rattle.std.proofs.Common.{◌≡◌, ◌+◌, ◌-◌, ◌<◌, ◌≤◌, ℕ, zero, suc, Bool, true, false, cond, List, [], ◌∷◌, ◌++◌, get_or, length, take, drop, map, refl, sym, ap, ◌∙◌, subst, append_assoc, arith, length-append}
use Rattle.std.specs.Prelude.{Some, None, Result, Ok, Err, slice_range, nat_lt, Option, IfSome}
use Rattle.std.proofs.Math.Seq.{drop-append_seam, take-append_seam, get_or-append_seam}
use Rattle.std.proofs.lemmas.Bool.{ltb-true, ltb-false}
use Rattle.std.proofs.lemmas.List.{get_or-append-add, get_or_append_left, take_all}
use Rattle.std.proofs.lemmas.List.Splits.{join_with_byte-slice_split}
use Rattle.hm_cert.specs.Certificate.{Row, ArePrices, AreRows, row_text, row_line, row_lines}
use Rattle.hm_cert.specs.Layout.{told}
use Rattle.hm_cert.specs.Places.{rows_or_none, rows_of, AreLines, IsRowPlace, IsLineStart, AreSoMany}
use Rattle.hm_cert.specs.Reading.{IsNext, IsPassed, pieces, line_row, and_row, rows_in}
use Rattle.hm_cert.specs.Short.{IsShortRow}
use Rattle.hm_cert.specs.declared.kept.RowPlace.{RowPlace}
use Rattle.hm_cert.specs.declared.lines.CertificateFault.{CertificateFault}
use Rattle.hm_cert.specs.declared.lines.CertificateFault.TheVariants.{TooLong, BadLine, OutOfMemory}
use Rattle.hm_cert.proofs.LineRows.{rows_after, row_more, no_row_more, bad_more}
use Rattle.hm_cert.proofs.Read as read
use Rattle.hm_cert.proofs.Written.{is_free, free_parts, free_row, line_back, rows_back}

-- ---- The rows of a text

pub rows_are : (number : ℕ) (text : List ℕ) (rows : List Row) → rows_in number text ≡ Ok rows → rows_of text ≡ rows
unfolding rows_of
rows_are number text rows h =
    let back = read.rows_back number (pieces 10 text) rows h in
    let lines : row_lines rows ≡ text = back.0 ∙ join_with_byte-slice_split 10 text in
    ap (λ t. rows_or_none (rows_in 3 t)) (sym lines) ∙ ap rows_or_none (rows_back 3 rows back.1)

pub lines_are : (number : ℕ) (text : List ℕ) (count : ℕ) → AreSoMany (rows_in number text) count → AreLines text count
lines_are number text count h =
    let back = read.rows_back number (pieces 10 text) h.rows h.are in
    let is : rows_of text ≡ h.rows = rows_are number text h.rows h.are in
    record {
      lines = ap row_lines is ∙ back.0 ∙ join_with_byte-slice_split 10 text;
      written = subst AreRows (sym is) back.1;
      counted = h.counted ∙ ap length (sym is);
    }

-- ---- The line of a row

row_at : (rows : List Row) (k : ℕ) → AreRows rows → k < length rows → (0 < length (get_or rows k [])) × ArePrices (get_or rows k [])
row_at [] k h l = absurd (omega arith)
row_at (row ∷ rows) zero h l = (h.0, h.1)
row_at (row ∷ rows) (suc k) h l = row_at rows k h.2 (omega arith)

-- the lines before a row, its own, and those after it
cut_lines : (rows : List Row) (k : ℕ) → k < length rows → row_lines rows ≡ row_lines (take k rows) ++ (row_text (get_or rows k []) ++ 10 ∷ row_lines (drop (suc k) rows))
cut_lines [] k l = absurd (omega arith)
cut_lines (row ∷ rows) zero l = append_assoc (row_text row) (10 ∷ []) (row_lines rows)
cut_lines (row ∷ rows) (suc k) l =
    ap (λ x. row_line row ++ x) (cut_lines rows k (omega arith))
    ∙ sym (append_assoc (row_line row) (row_lines (take k rows)) (row_text (get_or rows k []) ++ 10 ∷ row_lines (drop (suc k) rows)))

-- the bytes before the next row: those before this one, its own, and a line feed
front_more : (rows : List Row) (k : ℕ) → k < length rows → length (row_lines (take (suc k) rows)) ≡ length (row_lines (take k rows)) + length (row_text (get_or rows k [])) + 1
front_more [] k l = absurd (omega arith)
front_more (row ∷ rows) zero l = omega (arith, length-append (row_line row) [], length-append (row_text row) (10 ∷ []))
front_more (row ∷ rows) (suc k) l =
    omega (arith, front_more rows k (omega arith), length-append (row_line row) (row_lines (take (suc k) rows)), length-append (row_line row) (row_lines (take k rows)))

-- lines end by a line feed
lines_end : (rows : List Row) (j : ℕ) → j + 1 ≡ length (row_lines rows) → get_or (row_lines rows) j 0 ≡ 10
lines_end [] j e = absurd (omega (arith, e))
lines_end (row ∷ rows) j e = by_more (row_lines rows) refl (lines_end rows)
  where
    front : List ℕ
    front = row_line row

    own : length front ≡ length (row_text row) + 1
    own = length-append (row_text row) (10 ∷ [])

    all : length (front ++ row_lines rows) ≡ length front + length (row_lines rows)
    all = length-append front (row_lines rows)

    by_more : (more : List ℕ) → row_lines rows ≡ more → ((i : ℕ) → i + 1 ≡ length (row_lines rows) → get_or (row_lines rows) i 0 ≡ 10) → get_or (front ++ row_lines rows) j 0 ≡ 10
    by_more [] f after =
        let none : length (row_lines rows) ≡ 0 = ap length f in
        let last : j ≡ length (row_text row) = omega (arith, e, own, all, none) in
        get_or_append_left front (row_lines rows) 0 j (omega (arith, own, last)) ∙ ap (λ n. get_or front n 0) last ∙ get_or-append_seam (row_text row) 10 [] 0
    by_more (b ∷ more) f after =
        let some : length (row_lines rows) ≡ suc (length more) = ap length f in
        let at : j ≡ length front + (j - length front) = omega (arith, e, all, some) in
        ap (λ n. get_or (front ++ row_lines rows) n 0) at ∙ get_or-append-add front (row_lines rows) (j - length front) 0
        ∙ after (j - length front) (omega (arith, e, all, some))

-- no byte of a free text is the mark
pub free_at : (mark : ℕ) (text : List ℕ) (j : ℕ) → is_free mark text ≡ true → j < length text → get_or text j 0 ≡ mark → ⊥
free_at mark [] j h l e = absurd (omega arith)
free_at mark (b ∷ text) zero h l e = let p = free_parts b mark (is_free mark text) h in absurd (grind (arith, p.0, e))
free_at mark (b ∷ text) (suc j) h l e = free_at mark text j (free_parts b mark (is_free mark text) h).1 (omega arith) e

-- where a line begins, by what is before it
line_found : (before line more : List ℕ) (end at : ℕ) → end ≡ length before + length line → ((j : ℕ) → j + 1 ≡ length before → get_or before j 0 ≡ 10) → is_free 10 line ≡ true
    → IsLineStart (before ++ (line ++ 10 ∷ more)) end at → at ≡ length before
line_found before line more end at e ends free h = by_low (nat_lt at (length before)) refl
  where
    text : List ℕ
    text = before ++ (line ++ 10 ∷ more)

    by_high : (b : Bool) → nat_lt (length before) at ≡ b → length before ≤ at → at ≡ length before
    by_high true t low =
        let over : length before < at = ltb-true _ _ t in
        let j : ℕ = at - length before - 1 in
        let there : j < length line = omega (arith, over, e, h.within) in
        let mark : get_or text (length before + j) 0 ≡ 10 = h.after (omega (arith, over)) (length before + j) (omega (arith, over)) in
        absurd (free_at 10 line j free there (sym (get_or-append-add before (line ++ 10 ∷ more) j 0 ∙ get_or_append_left line (10 ∷ more) 0 j there) ∙ mark))
    by_high false t low = omega (arith, ltb-false _ _ t)

    by_low : (b : Bool) → nat_lt at (length before) ≡ b → at ≡ length before
    by_low true t =
        let under : at < length before = ltb-true _ _ t in
        let j : ℕ = length before - 1 in
        let mark : get_or text j 0 ≡ 10 = get_or_append_left before (line ++ 10 ∷ more) 0 j (omega (arith, under)) ∙ ends j (omega (arith, under)) in
        absurd (h.none j (omega (arith, under)) (omega (arith, under, e)) mark)
    by_low false t = by_high (nat_lt (length before) at) refl (ltb-false _ _ t)

range_of : (before line more : List ℕ) (end at : ℕ) → end ≡ length before + length line → at ≡ length before → slice_range (before ++ (line ++ 10 ∷ more)) at end ≡ line
range_of before line more end at e f =
    let size : end - at ≡ length line = omega (arith, e, f) in
    (λ i. take (size i) (drop (f i) (before ++ (line ++ 10 ∷ more)))) ∙ ap (take (length line)) (drop-append_seam before (line ++ 10 ∷ more)) ∙ take-append_seam line (10 ∷ more)

-- what is read of a row's line
row_is : (row : Row) (numbers line : List ℕ) (good : Bool) → 0 < length row → ArePrices row → line ≡ row_text row → line_row line ≡ cond good (Some (map told numbers)) None → map told numbers ≡ row
row_is row numbers line true some prices e h = let back = ap line_row e ∙ line_back row some prices in cc
row_is row numbers line false some prices e h = let back = ap line_row e ∙ line_back row some prices in absurd (cc)

-- ---- The row before a place

-- A place after a row, the rows of a text, and where the line of the row before it begins.
pub record IsBefore (rows : List Row) (place : RowPlace) (at : ℕ) (line : List ℕ) : Type 0 where
  pub row : (numbers : List ℕ) (good : Bool) → line_row line ≡ cond good (Some (map told numbers)) None → map told numbers ≡ get_or rows (place.row - 1) []
  pub front : at ≡ length (row_lines (take (place.row - 1) rows))

-- its line ends inside of the text
pub end_inside : (text : List ℕ) (rows : List Row) (place : RowPlace) → row_lines rows ≡ text → IsRowPlace rows place → 0 < place.row → place.at - 1 < length text
end_inside text rows place lines is some = by_row place.row refl
  where
    by_row : (k : ℕ) → place.row ≡ k → place.at - 1 < length text
    by_row zero e = absurd (omega (arith, e, some))
    by_row (suc k) e =
        let within : k < length rows = omega (arith, e, is.0) in
        let at : place.at ≡ length (row_lines (take (suc k) rows)) = is.1 ∙ ap (λ n. length (row_lines (take n rows))) e in
        let size = ap length (cut_lines rows k within) in
        let row : List ℕ = row_text (get_or rows k []) in
        omega (arith, at, ap length lines, size, front_more rows k within, length-append (row_lines (take k rows)) (row ++ 10 ∷ row_lines (drop (suc k) rows)), length-append row (10 ∷ row_lines (drop (suc k) rows)))

pub is_before : (text : List ℕ) (rows : List Row) (place : RowPlace) (at : ℕ) (line : List ℕ) → row_lines rows ≡ text → AreRows rows → IsRowPlace rows place → 0 < place.row → IsLineStart text (place.at - 1) at → line ≡ slice_range text at (place.at - 1) → IsBefore rows place at line
is_before text rows place at line lines written is some start cut = by_row place.row refl
  where
    by_row : (k : ℕ) → place.row ≡ k → IsBefore rows place at line
    by_row zero e = absurd (omega (arith, e, some))
    by_row (suc k) e =
        let within : k < length rows = omega (arith, e, is.0) in
        let good = row_at rows k written within in
        let row : List ℕ = row_text (get_or rows k []) in
        let before : List ℕ = row_lines (take k rows) in
        let more : List ℕ = row_lines (drop (suc k) rows) in
        let whole : text ≡ before ++ (row ++ 10 ∷ more) = sym lines ∙ cut_lines rows k within in
        let front : place.row - 1 ≡ k = omega (arith, e) in
        let place_at : place.at ≡ length (row_lines (take (suc k) rows)) = is.1 ∙ ap (λ n. length (row_lines (take n rows))) e in
        let end : place.at - 1 ≡ length before + length row = omega (arith, place_at, front_more rows k within) in
        let found : at ≡ length before = line_found before row more (place.at - 1) at end (lines_end (take k rows)) (free_row (get_or rows k []) good.1) (subst (λ t. IsLineStart t (place.at - 1) at) whole start) in
        let own : line ≡ row = cut ∙ ap (λ t. slice_range t at (place.at - 1)) whole ∙ range_of before row more (place.at - 1) at end found in
        record {
          row = λ numbers well h. row_is (get_or rows k []) numbers line well good.0 good.1 own h ∙ ap (λ n. get_or rows n []) (sym front);
          front = found ∙ ap (λ n. length (row_lines (take n rows))) (sym front);
        }

-- after all rows
pub end_place : (text : List ℕ) (rows : List Row) → row_lines rows ≡ text → length text ≡ length (row_lines (take (length rows) rows))
end_place text rows lines = ap length (sym lines) ∙ ap (λ r. length (row_lines r)) (sym (take_all (length rows) rows (omega arith)))

-- ---- Rows that are counted

-- `count` rows are before those that are left
pub record AreDone (all left : Result (List Row) ℕ) (count : ℕ) : Type 0 where
  pub rows : List Row
  pub counted : count ≡ length rows
  pub are : rows_after rows left ≡ all

pub none_done : (all : Result (List Row) ℕ) → AreDone all all 0
none_done (Ok rows) = record { rows = []; counted = refl; are = refl }
none_done (Err bad) = record { rows = []; counted = refl; are = refl }

one_done : (all left next : Result (List Row) ℕ) (row : Row) (count : ℕ) → AreDone all left count → left ≡ and_row row next → AreDone all next (count + 1)
one_done all left next row count h e = record {
  rows = h.rows ++ row ∷ [];
  counted = omega (arith, h.counted, length-append h.rows (row ∷ []));
  are = row_more h.rows row next ∙ ap (rows_after h.rows) (sym e) ∙ h.are;
}

pub all_done : (all left : Result (List Row) ℕ) (count : ℕ) → AreDone all left count → left ≡ Ok [] → AreSoMany all count
all_done all left count h e = record {
  rows = h.rows;
  are = sym h.are ∙ ap (rows_after h.rows) e ∙ no_row_more h.rows;
  counted = h.counted;
}

pub bad_done : (all left : Result (List Row) ℕ) (count bad : ℕ) → AreDone all left count → left ≡ Err bad → all ≡ Err bad
bad_done all left count bad h e = sym h.are ∙ bad_more h.rows left bad e

pub passed_done : (all left next : Result (List Row) ℕ) (more : Bool) (count : ℕ) → AreDone all left count → IsPassed left next (Ok more) → more ≡ true → AreDone all next (count + 1)
passed_done all left next true count h e is = one_done all left next e.0 count h e.1
passed_done all left next false count h e is = absurd (cc)

-- a row that was read was passed
pub read_passed : (left next : Result (List Row) ℕ) (row : Row) (answer : Result Bool CertificateFault) → IsNext left row next answer → IsPassed left next answer
read_passed left next row (Ok true) h = (row, h)
read_passed left next row (Ok false) h = h
read_passed left next row (Err (BadLine line)) h = h
read_passed left next row (Err TooLong) h = h
read_passed left next row (Err OutOfMemory) h = tt

-- ---- A row of prices of few digits

pub short_before : (text : List ℕ) (rows : List Row) (place : RowPlace) (at : ℕ) (numbers : List ℕ) (found : Option ℕ) → row_lines rows ≡ text → AreRows rows → IsRowPlace rows place → 0 < place.row → IfSome found (IsShortRow text (place.at - 1) (map told numbers)) → found ≡ Some at
    → (map told numbers ≡ get_or rows (place.row - 1) []) × (at ≡ length (row_lines (take (place.row - 1) rows)))
short_before text rows place at numbers None lines written is some h e = absurd (cc)
short_before text rows place at numbers (Some start) lines written is some h e =
    let same : start ≡ at = cc in
    by_start (subst (IsShortRow text (place.at - 1) (map told numbers)) same h)
  where
    by_start : IsShortRow text (place.at - 1) (map told numbers) at → (map told numbers ≡ get_or rows (place.row - 1) []) × (at ≡ length (row_lines (take (place.row - 1) rows)))
    by_start h =
        let before = is_before text rows place at (slice_range text at (place.at - 1)) lines written is some h.start refl in
        (before.row numbers true (ap line_row h.written ∙ line_back (map told numbers) h.some h.prices), before.front)
