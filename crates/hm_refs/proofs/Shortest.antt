-- Lengths of references by number.
use Rattle.std.proofs.Common.{◌≡◌, ℕ, zero, suc, ◌+◌, ◌^◌, ◌/◌, ◌%◌, ◌<◌, ◌≤◌, ◌⊎◌, inl, inr, Bool, true, false, cond, ◌&&◌, ◌||◌, ◌==◌, nat_le, nat_lt, List, [], ◌∷◌, length, Option, Some, None, refl, sym, ap, ◌∙◌, arith, length-append}
use Rattle.std.specs.Char.{digit_value}
use Rattle.std.specs.Fmt.{decimal, digits, digits_onto, digit_glyph}
use Rattle.std.specs.List.{list_all}
use Rattle.std.specs.Str.Parse.{AllDigits}
use Rattle.std.proofs.lemmas.Bool.{cases_lt, and_parts, ltb-true}
use Rattle.std.proofs.lemmas.Fmt.{digits_is_IsNumeral, length-decimal-le}
use Rattle.std.proofs.lemmas.Int.Digits.{digits_value-lt}
use Rattle.hm_base.specs.Bytes.{all_pass, is_digit_of, is_null}
use Rattle.hm_refs.specs.Numbers.{point_of, replaced, look_up, look_back, or_number, or_itself, best_number}
use Rattle.hm_refs.specs.References.{value_of}
use Rattle.hm_refs.specs.Laws.{Gives, end_of, decimal_reference, hexadecimal_reference, is_shorter_in_hexadecimal, IsShortestNumber, IsShorter}
use Rattle.hm_refs.proofs.Bools.{and_left, and_right, le_of}
use Rattle.hm_refs.proofs.NumberLaws.{best_gives, best_least, Least, same_eq, back_passes, up_passes, goes_back, all_go_back}

all_digits : (base : ℕ) (ds : List ℕ) → all_pass (is_digit_of base) ds ≡ true → AllDigits base ds
unfolding is_digit_of
all_digits base [] a = tt
all_digits base (d ∷ ds) a = let p = and_parts (is_digit_of base d) (all_pass (is_digit_of base) ds) a in (so_lt (digit_value d) base p.0, all_digits base ds p.1)
  where
    so_lt : (m n : ℕ) → nat_lt m n ≡ true → m < n
    so_lt m n h = grind arith

all_pass_digits : (base : ℕ) (ds : List ℕ) → AllDigits base ds → all_pass (is_digit_of base) ds ≡ true
unfolding is_digit_of
all_pass_digits base [] a = refl
all_pass_digits base (d ∷ ds) a = both (lt_so (digit_value d) base a.0) (all_pass_digits base ds a.1)
  where
    lt_so : (m n : ℕ) → m < n → nat_lt m n ≡ true
    lt_so m n h = grind arith

    both : {a b : Bool} → a ≡ true → b ≡ true → a && b ≡ true
    both e f = rw (e, f) refl

value_lt : (base : ℕ) (ds : List ℕ) → all_pass (is_digit_of base) ds ≡ true → value_of base ds < base ^ length ds
unfolding value_of
value_lt base ds a = digits_value-lt base ds (all_digits base ds a)

some_length : (ds : List ℕ) → is_null ds ≡ false → 0 < length ds
some_length [] h = absurd (cc)
some_length (d ∷ ds) h = omega arith

length_some : (ds : List ℕ) → 0 < length ds → is_null ds ≡ false
length_some [] h = absurd (omega arith)
length_some (d ∷ ds) h = refl

-- the digits that are written for n
pub digits_give : (base n c : ℕ) → 2 ≤ base → base ≤ 16 → n < base ^ 64 → point_of n ≡ c → Gives base (digits base false n) c
unfolding value_of
digits_give base n c low high h p =
    let d = digits_is_IsNumeral base false low high n h in
    record {
      some = length_some (digits base false n) d.0.0;
      digits = all_pass_digits base (digits base false n) d.0.1;
      value = ap point_of d.1 ∙ p;
    }

-- a best number has no more digits than any decimal number that gives the same
decimal_short : (ds : List ℕ) (k : ℕ) → 0 < length ds → k < 10 ^ length ds → k ≤ 0x10FFFF → length (decimal k) ≤ length ds
decimal_short ds k s l small = length-decimal-le (length ds) k s l (omega arith)

seven_places : (l k : ℕ) → k ≤ 0x10FFFF → k < 10 ^ suc (suc (suc (suc (suc (suc (suc l))))))
seven_places zero k h = omega arith
seven_places (suc l) k h = let m = seven_places l k h in omega arith

-- the decimal has one digit more than the hexadecimal at most, except for seven digits against five
hex_fits : (l k : ℕ) → 0 < l → k < 16 ^ l → k ≤ 0x10FFFF → (k < 10 ^ suc l) ⊎ ((1000000 ≤ k) × (k < 16 ^ 5))
hex_fits zero k s h small = absurd (omega arith)
hex_fits (suc zero) k s h small = inl (omega arith)
hex_fits (suc (suc zero)) k s h small = inl (omega arith)
hex_fits (suc (suc (suc zero))) k s h small = inl (omega arith)
hex_fits (suc (suc (suc (suc zero)))) k s h small = inl (omega arith)
hex_fits (suc (suc (suc (suc (suc zero))))) k s h small = elim (cases_lt k 1000000) [ inl a ↦ inl (omega arith) | inr b ↦ inr (b, h) ]
hex_fits (suc (suc (suc (suc (suc (suc l)))))) k s h small = inl (seven_places l k small)

-- a million has seven decimal digits, and five hexadecimal ones
seven_digits : (l k : ℕ) → 1000000 ≤ k → k < 10 ^ l → 7 ≤ l
seven_digits zero k h m = absurd (omega arith)
seven_digits (suc zero) k h m = absurd (omega arith)
seven_digits (suc (suc zero)) k h m = absurd (omega arith)
seven_digits (suc (suc (suc zero))) k h m = absurd (omega arith)
seven_digits (suc (suc (suc (suc zero)))) k h m = absurd (omega arith)
seven_digits (suc (suc (suc (suc (suc zero))))) k h m = absurd (omega arith)
seven_digits (suc (suc (suc (suc (suc (suc zero)))))) k h m = absurd (omega arith)
seven_digits (suc (suc (suc (suc (suc (suc (suc l))))))) k h m = omega arith

five_digits : (l k : ℕ) → 1000000 ≤ k → k < 16 ^ l → 5 ≤ l
five_digits zero k h m = absurd (omega arith)
five_digits (suc zero) k h m = absurd (omega arith)
five_digits (suc (suc zero)) k h m = absurd (omega arith)
five_digits (suc (suc (suc zero))) k h m = absurd (omega arith)
five_digits (suc (suc (suc (suc zero)))) k h m = absurd (omega arith)
five_digits (suc (suc (suc (suc (suc l))))) k h m = omega arith

onto_short : (j k n : ℕ) (acc : List ℕ) → n < 16 ^ suc j → length (digits_onto k 16 false n acc) ≤ length acc + suc j
onto_short j zero n acc h = omega arith
onto_short zero (suc k) n acc h = let z : (n / 16 == 0) ≡ true = grind arith in rw z (omega arith)
onto_short (suc j) (suc k) n acc h = by_test (n / 16 == 0) (onto_short j k (n / 16) (digit_glyph false (n % 16) ∷ acc) (omega arith))
  where
    by_test : (b : Bool) → length (digits_onto k 16 false (n / 16) (digit_glyph false (n % 16) ∷ acc)) ≤ suc (length acc) + suc j
        → length (cond b (digit_glyph false (n % 16) ∷ acc) (digits_onto k 16 false (n / 16) (digit_glyph false (n % 16) ∷ acc))) ≤ length acc + suc (suc j)
    by_test true l = omega arith
    by_test false l = omega arith

hex_short : (c : ℕ) → c < 16 ^ 5 → length (digits 16 false c) ≤ 5
unfolding digits
hex_short c h = onto_short 4 64 c [] h

-- a large code point is what its own number gives
itself_high : (c : ℕ) → 0xDFFF < c → c ≤ 0x10FFFF → point_of c ≡ c
unfolding point_of
itself_high c h k = by_up (look_up c replaced) refl
  where
    low : nat_le c 0xDFFF ≡ false
    low = grind arith

    high : nat_lt 0x10FFFF c ≡ false
    high = grind arith

    zero_no : (c == 0) ≡ false
    zero_no = grind arith

    by_up : (u : Option ℕ) → look_up c replaced ≡ u → cond (c == 0 || (nat_le 0xD800 c && nat_le c 0xDFFF) || nat_lt 0x10FFFF c) 0xFFFD (or_number u c) ≡ c
    by_up None e = rw (zero_no, low, high) (by_bool (nat_le 0xD800 c))
      where
        by_bool : (b : Bool) → cond (b && false || false) 0xFFFD c ≡ c
        by_bool true = refl
        by_bool false = refl
    by_up (Some d) e =
        let t = le_of c 255 (and_left (nat_le c 255) (nat_le c d) (and_right (point_of c == d) (nat_le c 255 && nat_le c d) (up_passes goes_back c d replaced all_go_back e))) in
        absurd (omega arith)

low_replacements : list_all (λ (p : ℕ × ℕ). nat_lt p.1 1000000) replaced ≡ true
low_replacements = refl

best_itself : (c : ℕ) → 1000000 ≤ c → point_of c ≡ c → best_number c ≡ Some c
unfolding best_number
best_itself c h p = by_back (look_back c replaced) refl
  where
    other : (c == 0xFFFD) ≡ false
    other = grind arith

    by_back : (o : Option ℕ) → look_back c replaced ≡ o → cond (c == 0xFFFD) (Some 0) (or_itself o c) ≡ Some c
    by_back None e = rw (other, p, same_eq c) refl
    by_back (Some n) e =
        let t = back_passes (λ (q : ℕ × ℕ). nat_lt q.1 1000000) c n replaced low_replacements e in
        let l = ltb-true c 1000000 t in
        absurd (omega arith)

digits_write : (base n : ℕ) → 2 ≤ base → base ≤ 16 → n < base ^ 64 → value_of base (digits base false n) ≡ n
unfolding value_of
digits_write base n low high h = (digits_is_IsNumeral base false low high n h).1

pub shortest : (c n : ℕ) → best_number c ≡ Some n → IsShortestNumber c n
shortest c n h = record {
  gives = digits_give 10 n c (omega arith) (omega arith) (omega (arith, g.1)) g.0;
  decimals = λ ds closed d. by_decimal ds closed d (best_least (value_of 10 ds) c d.value);
  hexadecimals = λ e x ds closed d. by_hexadecimal e x ds closed d (best_least (value_of 16 ds) c d.value);
}
  where
    g : (point_of n ≡ c) × (n ≤ 0x10FFFF)
    g = best_gives c n h

    by_decimal : (ds : List ℕ) (closed : Bool) → Gives 10 ds c → Least (value_of 10 ds) c → length (decimal_reference (decimal n) closed) ≤ length (decimal_reference ds closed)
    by_decimal ds closed d l =
        let v = value_lt 10 ds d.digits in
        let i : Some n ≡ Some l.best = sym h ∙ l.is in
        let j : n ≡ l.best = cc in
        let m = decimal_short ds n (some_length ds d.some) (omega (arith, l.le)) g.1 in
        omega (arith, length-append (decimal n) (end_of closed), length-append ds (end_of closed))

    by_hexadecimal : is_shorter_in_hexadecimal c ≡ false → (x : ℕ) (ds : List ℕ) (closed : Bool) → Gives 16 ds c → Least (value_of 16 ds) c → length (decimal_reference (decimal n) closed) ≤ length (hexadecimal_reference x ds closed)
    by_hexadecimal e x ds closed d l =
        let v = value_lt 16 ds d.digits in
        let i : Some n ≡ Some l.best = sym h ∙ l.is in
        let j : n ≡ l.best = cc in
        by_size (hex_fits (length ds) n (some_length ds d.some) (omega (arith, l.le)) g.1) j
      where
        late : 1000000 ≤ c → c < 16 ^ 5 → nat_le 1000000 c && nat_le c 1048575 ≡ true
        late a b = let p : nat_le 1000000 c ≡ true = grind arith in let q : nat_le c 1048575 ≡ true = grind arith in rw (p, q) refl

        by_size : (n < 10 ^ suc (length ds)) ⊎ ((1000000 ≤ n) × (n < 16 ^ 5)) → n ≡ l.best → length (decimal_reference (decimal n) closed) ≤ length (hexadecimal_reference x ds closed)
        by_size (inl k) j = let m = length-decimal-le (suc (length ds)) n (omega arith) k (omega (arith, g.1)) in omega (arith, length-append (decimal n) (end_of closed), length-append ds (end_of closed))
        by_size (inr k) j =
            let s = l.high (omega (arith, k.0)) in
            let f = late (omega (arith, k.0, s)) (omega (arith, k.1, s)) in
            absurd (cc)

pub shorter : (c : ℕ) → is_shorter_in_hexadecimal c ≡ true → IsShorter c
shorter c h = record {
  best = best;
  gives = hexadecimal_gives;
  by_one = λ x closed. omega (arith, seven, five, length-append (digits 16 false c) (end_of closed), length-append (decimal c) (end_of closed));
  shortest = λ x ds closed d. by_value x ds closed d (best_least (value_of 16 ds) c d.value);
}
  where
    low : 1000000 ≤ c
    low = le_of 1000000 c (and_left (nat_le 1000000 c) (nat_le c 1048575) h)

    high : c ≤ 1048575
    high = le_of c 1048575 (and_right (nat_le 1000000 c) (nat_le c 1048575) h)

    own : point_of c ≡ c
    own = itself_high c (omega (arith, low)) (omega (arith, high))

    best : best_number c ≡ Some c
    best = best_itself c low own

    hexadecimal_gives : Gives 16 (digits 16 false c) c
    hexadecimal_gives = digits_give 16 c c (omega arith) (omega arith) (omega (arith, high)) own

    five : length (digits 16 false c) ≡ 5
    five =
        let v = value_lt 16 (digits 16 false c) hexadecimal_gives.digits in
        let w = digits_write 16 c (omega arith) (omega arith) (omega (arith, high)) in
        let m = five_digits (length (digits 16 false c)) c low (omega (arith, w)) in
        let n = hex_short c (omega (arith, high)) in
        omega arith

    seven : length (decimal c) ≡ 7
    seven =
        let g = digits_give 10 c c (omega arith) (omega arith) (omega (arith, high)) own in
        let v = value_lt 10 (decimal c) g.digits in
        let w = digits_write 10 c (omega arith) (omega arith) (omega (arith, high)) in
        let m = seven_digits (length (decimal c)) c low (omega (arith, w)) in
        let n = length-decimal-le 7 c (omega arith) (omega (arith, high)) (omega (arith, high)) in
        omega arith

    by_value : (x : ℕ) (ds : List ℕ) (closed : Bool) → Gives 16 ds c → Least (value_of 16 ds) c → length (hexadecimal_reference x (digits 16 false c) closed) ≤ length (hexadecimal_reference x ds closed)
    by_value x ds closed d l =
        let i : Some c ≡ Some l.best = sym best ∙ l.is in
        let j : c ≡ l.best = cc in
        let v = value_lt 16 ds d.digits in
        let m = five_digits (length ds) (value_of 16 ds) (omega (arith, low, l.le)) v in
        omega (arith, five, length-append (digits 16 false c) (end_of closed), length-append ds (end_of closed))
