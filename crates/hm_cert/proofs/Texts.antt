-- Lines of prices, from the start and from the end.
use Rattle.std.proofs.Common.{◌≡◌, ◌+◌, ◌-◌, ◌<◌, ◌≤◌, ◌^◌, ◌/◌, ◌%◌, drop-cons, ℕ, List, [], ◌∷◌, ◌++◌, length, get_or, take, drop, length-take, length-drop, map, reverse, refl, sym, ap, ◌∙◌, add-one, append_assoc, arith}
use Rattle.std.specs.Prelude.{Option, slice_range}
use Rattle.std.specs.Fmt.{decimal}
use Rattle.std.proofs.lemmas.Fmt.{decimal_step, decimal_digit}
use Rattle.std.proofs.lemmas.List.{append-nil, append_cancel_right, drop-drop, take_all, take-append-drop, reverse-append}
use Rattle.hm_cert.specs.Certificate.{price_text, row_text, row_line, row_lines, more_prices}
use Rattle.hm_cert.specs.Layout.{told}

-- the first price, and the others
pub row_text_cons : (price : Option ℕ) (row : List (Option ℕ)) → row_text (price ∷ row) ≡ price_text price ++ more_prices row
row_text_cons price [] = sym (append-nil (price_text price))
row_text_cons price (next ∷ row) = ap (λ xs. price_text price ++ 32 ∷ xs) (row_text_cons next row)

pub cut_at : {A : Type 0} (xs : List A) (k : ℕ) (d : A) → k < length xs → drop k xs ≡ get_or xs k d ∷ drop (k + 1) xs
cut_at xs k d h = rw add-one (drop-cons xs k d h)

-- one more of the prices after a space
pub more_step : (row : List ℕ) (k : ℕ) → k < length row → more_prices (map told (drop k row)) ≡ 32 ∷ (price_text (told (get_or row k 0)) ++ more_prices (map told (drop (k + 1) row)))
more_step row k h = ap (λ xs. more_prices (map told xs)) (cut_at row k 0 h)

-- one more line
pub lines_step : (rows : List (List (Option ℕ))) (k : ℕ) (row : List ℕ) (out after : List ℕ) → k < length rows → map told row ≡ get_or rows k [] → after ≡ out ++ row_line (map told row) → after ++ row_lines (drop (k + 1) rows) ≡ out ++ row_lines (drop k rows)
lines_step rows k row out after h e f =
    let cut : drop k rows ≡ get_or rows k [] ∷ drop (k + 1) rows = cut_at rows k [] h in
    ap (λ x. x ++ row_lines (drop (k + 1) rows)) f
    ∙ append_assoc out (row_line (map told row)) (row_lines (drop (k + 1) rows))
    ∙ ap (λ x. out ++ (row_line x ++ row_lines (drop (k + 1) rows))) e
    ∙ ap (λ x. out ++ row_lines x) (sym cut)

-- one more byte at the start, reversed
pub turned_step : (bytes : List ℕ) (k : ℕ) → k < length bytes → reverse (drop k bytes) ≡ reverse (drop (k + 1) bytes) ++ get_or bytes k 0 ∷ []
turned_step bytes k h = ap reverse (cut_at bytes k 0 h) ∙ reverse-append (get_or bytes k 0 ∷ []) (drop (k + 1) bytes)

-- one more price at the start, reversed
pub turned_more : (row : List ℕ) (k : ℕ) → k < length row → reverse (more_prices (map told (drop k row))) ≡ reverse (more_prices (map told (drop (k + 1) row))) ++ (reverse (price_text (told (get_or row k 0))) ++ 32 ∷ [])
turned_more row k h =
    let price : List ℕ = price_text (told (get_or row k 0)) in
    let rest : List ℕ = more_prices (map told (drop (k + 1) row)) in
    ap reverse (more_step row k h)
    ∙ reverse-append (32 ∷ []) (price ++ rest)
    ∙ ap (λ x. x ++ 32 ∷ []) (reverse-append price rest)
    ∙ append_assoc (reverse rest) (reverse price) (32 ∷ [])

-- the last digit and those before it
pub turned_number : (n : ℕ) → 10 ≤ n → n < 2 ^ 64 → reverse (decimal n) ≡ (48 + n % 10) ∷ reverse (decimal (n / 10))
turned_number n h l = ap reverse (decimal_step n h l) ∙ reverse-append (decimal (n / 10)) ((48 + n % 10) ∷ [])

pub turned_digit : (n : ℕ) → n < 10 → reverse (decimal n) ≡ (48 + n) ∷ []
turned_digit n h = ap reverse (decimal_digit n h)

-- the last two digits and those before them
pub turned_pair : (n : ℕ) → 100 ≤ n → n < 2 ^ 64 → reverse (decimal n) ≡ (48 + n % 100 % 10) ∷ (48 + n % 100 / 10) ∷ reverse (decimal (n / 100))
turned_pair n h l =
    let last : n % 10 ≡ n % 100 % 10 = omega arith in
    let next : n / 10 % 10 ≡ n % 100 / 10 = omega arith in
    let rest : n / 10 / 10 ≡ n / 100 = omega arith in
    turned_number n (omega arith) l
    ∙ ap (λ x. (48 + n % 10) ∷ x) (turned_number (n / 10) (omega arith) (omega arith))
    ∙ ap (λ x. (48 + x) ∷ (48 + n / 10 % 10) ∷ reverse (decimal (n / 10 / 10))) last
    ∙ ap (λ x. (48 + n % 100 % 10) ∷ (48 + x) ∷ reverse (decimal (n / 10 / 10))) next
    ∙ ap (λ x. (48 + n % 100 % 10) ∷ (48 + n % 100 / 10) ∷ reverse (decimal x)) rest

pub turned_two : (n : ℕ) → 10 ≤ n → n < 100 → reverse (decimal n) ≡ (48 + n % 10) ∷ (48 + n / 10) ∷ []
turned_two n h l = turned_number n h (omega arith) ∙ ap (λ x. (48 + n % 10) ∷ x) (turned_digit (n / 10) (omega arith))

pub row_parts : (row : List ℕ) → 1 ≤ length row → row_text (map told row) ≡ price_text (told (get_or row 0 0)) ++ more_prices (map told (take (length row - 1) (drop 1 row)))
row_parts [] h = absurd (omega arith)
row_parts (number ∷ row) h = row_text_cons (told number) (map told row) ∙ ap (λ x. price_text (told number) ++ more_prices (map told x)) (sym (take_all (length (number ∷ row) - 1) row (omega arith)))

-- a row, reversed
pub turned_row : (row : List ℕ) → 1 ≤ length row → reverse (row_text (map told row)) ≡ reverse (more_prices (map told (take (length row - 1) (drop 1 row)))) ++ reverse (price_text (told (get_or row 0 0)))
turned_row row h = ap reverse (row_parts row h) ∙ reverse-append (price_text (told (get_or row 0 0))) (more_prices (map told (take (length row - 1) (drop 1 row))))

-- ---- A row in parts

more_append : (a b : List ℕ) → more_prices (map told (a ++ b)) ≡ more_prices (map told a) ++ more_prices (map told b)
more_append [] b = refl
more_append (p ∷ a) b =
    ap (λ x. 32 ∷ (price_text (told p) ++ x)) (more_append a b)
    ∙ ap (λ x. 32 ∷ x) (sym (append_assoc (price_text (told p)) (more_prices (map told a)) (more_prices (map told b))))

more_row : (row : List ℕ) → 0 < length row → more_prices (map told row) ≡ 32 ∷ row_text (map told row)
more_row [] h = absurd (omega (arith, h))
more_row (p ∷ row) h = ap (λ x. 32 ∷ x) (sym (row_text_cons (told p) (map told row)))

turned_part : (a b : List ℕ) → 0 < length a → reverse (more_prices (map told (a ++ b))) ≡ reverse (more_prices (map told b)) ++ (reverse (row_text (map told a)) ++ 32 ∷ [])
turned_part a b h =
    ap reverse (more_append a b ∙ ap (λ x. x ++ more_prices (map told b)) (more_row a h))
    ∙ reverse-append (32 ∷ row_text (map told a)) (more_prices (map told b))
    ∙ ap (λ x. reverse (more_prices (map told b)) ++ x) (reverse-append (32 ∷ []) (row_text (map told a)))

-- one more part
pub part_put : (row before out after : List ℕ) (start end mark first : ℕ) → start < end → end ≤ length row
    → out ++ mark ∷ [] ≡ before ++ first ∷ reverse (more_prices (map told (drop end row)))
    → after ≡ out ++ mark ∷ reverse (row_text (map told (slice_range row start end)))
    → after ++ 32 ∷ [] ≡ before ++ first ∷ reverse (more_prices (map told (drop start row)))
part_put row before out after start end mark first order inside h is =
    let part : List ℕ = take (end - start) (drop start row) in
    let text : List ℕ = reverse (row_text (map told part)) in
    let rest : List ℕ = reverse (more_prices (map told (drop end row))) in
    let sum : start + (end - start) ≡ end = omega (arith, order) in
    let cut : part ++ drop end row ≡ drop start row = ap (λ n. part ++ drop n row) (sym sum) ∙ ap (λ x. part ++ x) (sym (drop-drop (end - start) start row)) ∙ take-append-drop (end - start) (drop start row) in
    let some : 0 < length part = omega (arith, order, inside, length-take (end - start) (drop start row), length-drop start row) in
    ap (λ x. x ++ 32 ∷ []) (is ∙ sym (append_assoc out (mark ∷ []) text) ∙ ap (λ x. x ++ text) h ∙ append_assoc before (first ∷ rest) text)
    ∙ append_assoc before (first ∷ (rest ++ text)) (32 ∷ [])
    ∙ ap (λ x. before ++ first ∷ x) (append_assoc rest text (32 ∷ []) ∙ sym (turned_part part (drop end row) some) ∙ ap (λ x. reverse (more_prices (map told x))) cut)

-- all parts
pub parts_put : (row before out : List ℕ) (end mark first : ℕ) → 0 < length row → end ≤ 0 → mark ≡ 32
    → out ++ mark ∷ [] ≡ before ++ first ∷ reverse (more_prices (map told (drop end row)))
    → out ≡ before ++ first ∷ reverse (row_text (map told row))
parts_put row before out end mark first some last is h =
    let none : end ≡ 0 = omega (arith, last) in
    let text : List ℕ = reverse (row_text (map told row)) in
    append_cancel_right out (before ++ first ∷ text) (32 ∷ []) (
    ap (λ m. out ++ m ∷ []) (sym is)
    ∙ h
    ∙ ap (λ n. before ++ first ∷ reverse (more_prices (map told (drop n row)))) none
    ∙ ap (λ x. before ++ first ∷ reverse x) (more_row row some)
    ∙ ap (λ x. before ++ first ∷ x) (reverse-append (32 ∷ []) (row_text (map told row)))
    ∙ sym (append_assoc before (first ∷ text) (32 ∷ [])))
