-- A character reference that is read: its bytes are ASCII and at least three, and it stands for one or two code points.
use Rattle.std.proofs.Common.{◌≡◌, ℕ, suc, ◌+◌, ◌<◌, ◌≤◌, Bool, true, false, cond, ◌&&◌, ◌||◌, ◌==◌, nat_lt, nat_le, List, [], ◌∷◌, ◌++◌, length, get_or, Option, Some, None, encode_utf8_all, refl, ap, sym, subst, ◌∙◌, arith, append_assoc, length-append, append-nil}
use Rattle.std.specs.List.{list_all}
use Rattle.std.specs.Char.{IsScalar}
use Rattle.std.specs.Str.{is_utf8}
use Rattle.std.proofs.lemmas.Bool.{and_parts, and_from, or_from, eqb-true}
use Rattle.std.proofs.lemmas.Str.{IsUtf8-append, IsUtf8-nil, IsUtf8-encode, is_utf8-from_IsUtf8, length-encode, len_utf8_bounds, inside_one}
use lib.Utf8.{encode}
use Rattle.hm_base.specs.Bytes.{front, rest_after, all_pass, is_null, is_digit_of, is_alnum, is_letter}
use Rattle.hm_base.specs.Forms.{has_byte}
use Rattle.hm_refs.specs.Names.{Entry, Found, longest, is_good, is_tail}
use Rattle.hm_refs.specs.Numbers.{point_of, look_up, or_number, replaced}
use Rattle.hm_refs.specs.References.{Reference, value_of, numeric, decimal_number, hexadecimal, hash, is_blocked, named, reference_by, reference}
use Rattle.hm_refs.specs.Tables.{is_point, are_points}
use Rattle.hm_refs.proofs.Found.{Entered, entry_of, IsLast, found_last}
use Rattle.hm_refs.proofs.NumberLaws.{up_passes}
use Rattle.hm_token_laws.specs.Laws.{SoundNames}
use Rattle.hm_token_laws.proofs.Plain.{front_and_rest, front_passes, pass_both}

unfoldable pub is_ascii : ℕ → Bool
is_ascii c = nat_lt c 128

pub ascii_low : (c : ℕ) → is_ascii c ≡ true → c < 128
unfolding is_ascii
ascii_low c h = grind arith

pub low_ascii : (c : ℕ) → c < 128 → is_ascii c ≡ true
unfolding is_ascii
low_ascii c h = grind arith

-- r stands at the start of s
pub record GoodReference (s : List ℕ) (r : Reference) : Type 0 where
  pub written : List ℕ
  pub rest : List ℕ
  pub is : s ≡ written ++ rest
  pub len : r.len ≡ length written
  pub low : all_pass is_ascii written ≡ true
  pub long : 3 ≤ length written
  pub scalars : are_points r.points ≡ true

-- ---- numbers

digit_ascii : (base c : ℕ) → base ≤ 16 → is_digit_of base c ≡ true → is_ascii c ≡ true
unfolding is_digit_of is_ascii
digit_ascii base c h d = grind arith

digits_ascii : (base : ℕ) (s : List ℕ) → base ≤ 16 → all_pass (is_digit_of base) s ≡ true → all_pass is_ascii s ≡ true
digits_ascii base [] h d = refl
digits_ascii base (c ∷ s) h d =
    let both = and_parts (is_digit_of base c) (all_pass (is_digit_of base) s) d in
    and_from (is_ascii c) (all_pass is_ascii s) (digit_ascii base c h both.0) (digits_ascii base s h both.1)

replaced_are_points : list_all (λ (p : ℕ × ℕ). is_point p.1) replaced ≡ true
replaced_are_points = refl

itself_point : (n : ℕ) → (n == 0) || (nat_le 0xD800 n && nat_le n 0xDFFF) || nat_lt 0x10FFFF n ≡ false → is_point n ≡ true
itself_point n h = grind arith

pub number_is_point : (n : ℕ) → is_point (point_of n) ≡ true
unfolding point_of
number_is_point n = by_test ((n == 0) || (nat_le 0xD800 n && nat_le n 0xDFFF) || nat_lt 0x10FFFF n) refl
  where
    by_look : (o : Option ℕ) → look_up n replaced ≡ o → is_point n ≡ true → is_point (or_number o n) ≡ true
    by_look None e h = h
    by_look (Some c) e h = up_passes (λ p. is_point p.1) n c replaced replaced_are_points e

    by_test : (b : Bool) → ((n == 0) || (nat_le 0xD800 n && nat_le n 0xDFFF) || nat_lt 0x10FFFF n) ≡ b → is_point (cond b 0xFFFD (or_number (look_up n replaced) n)) ≡ true
    by_test true e = refl
    by_test false e = by_look (look_up n replaced) refl (itself_point n e)

-- the bytes in `before` stand before the digits
number_good : (before : List ℕ) (base : ℕ) (s : List ℕ) (r : Reference) → base ≤ 16 → 2 ≤ length before → all_pass is_ascii before ≡ true
    → numeric (length before) base (front (is_digit_of base) s) (rest_after (is_digit_of base) s) ≡ Some r → GoodReference (before ++ s) r
number_good before base s r low some ascii h =
    by_digits (front (is_digit_of base) s) (rest_after (is_digit_of base) s) (front_and_rest (is_digit_of base) s) (digits_ascii base (front (is_digit_of base) s) low (front_passes (is_digit_of base) s)) h
  where
    short : (ds rest : List ℕ) → s ≡ ds ++ rest → all_pass is_ascii ds ≡ true → 1 ≤ length ds → (n : ℕ) → n ≡ length before + length ds → r ≡ record { points = point_of (value_of base ds) ∷ []; len = n }
        → GoodReference (before ++ s) r
    short ds rest e a one n m is = record {
      written = before ++ ds;
      rest = rest;
      is = ap (λ x. before ++ x) e ∙ sym (append_assoc before ds rest);
      len = ap (λ (x : Reference). x.len) is ∙ m ∙ sym (length-append before ds);
      low = pass_both is_ascii before ds ascii a;
      long = simp length-append (omega arith);
      scalars = subst (λ (x : Reference). are_points x.points ≡ true) (sym is) (number_is_point (value_of base ds));
    }

    ended : (d : ℕ) (ds rest : List ℕ) (c : ℕ) (b : Bool) → (59 == c) ≡ b → s ≡ (d ∷ ds) ++ c ∷ rest → all_pass is_ascii (d ∷ ds) ≡ true
        → r ≡ record { points = point_of (value_of base (d ∷ ds)) ∷ []; len = length before + length (d ∷ ds) + cond b 1 0 } → GoodReference (before ++ s) r
    ended d ds rest c false f e a is = short (d ∷ ds) (c ∷ rest) e a (omega arith) _ (omega arith) is
    ended d ds rest c true f e a is =
        let low : is_ascii c ≡ true = low_ascii c (let same : 59 ≡ c = eqb-true 59 c f in omega arith) in
        record {
          written = before ++ (d ∷ ds ++ c ∷ []);
          rest = rest;
          is = ap (λ x. before ++ x) (e ∙ sym (append_assoc (d ∷ ds) (c ∷ []) rest)) ∙ sym (append_assoc before (d ∷ ds ++ c ∷ []) rest);
          len = ap (λ (x : Reference). x.len) is ∙ simp length-append (omega arith);
          low = pass_both is_ascii before (d ∷ ds ++ c ∷ []) ascii (pass_both is_ascii (d ∷ ds) (c ∷ []) a (rw low refl));
          long = simp length-append (omega arith);
          scalars = subst (λ (x : Reference). are_points x.points ≡ true) (sym is) (number_is_point (value_of base (d ∷ ds)));
        }

    by_digits : (ds rest : List ℕ) → s ≡ ds ++ rest → all_pass is_ascii ds ≡ true → numeric (length before) base ds rest ≡ Some r → GoodReference (before ++ s) r
    by_digits [] rest e a h = absurd (cc)
    by_digits (d ∷ ds) [] e a h = let is : record { points = point_of (value_of base (d ∷ ds)) ∷ []; len = length before + length (d ∷ ds) + 0 } ≡ r = cc in short (d ∷ ds) [] e a (omega arith) _ (omega arith) (sym is)
    by_digits (d ∷ ds) (c ∷ rest) e a h =
        let is : record { points = point_of (value_of base (d ∷ ds)) ∷ []; len = length before + length (d ∷ ds) + cond (59 == c) 1 0 } ≡ r = cc in
        ended d ds rest c (59 == c) refl e a (sym is)

hash_good : (s : List ℕ) (r : Reference) → hash s ≡ Some r → GoodReference (38 ∷ 35 ∷ s) r
unfolding is_ascii
hash_good [] r h = absurd (cc)
hash_good (c ∷ s) r h = by_test (120 == c || 88 == c) refl h
  where
    by_test : (b : Bool) → (120 == c || 88 == c) ≡ b → cond b (hexadecimal s) (decimal_number (c ∷ s)) ≡ Some r → GoodReference (38 ∷ 35 ∷ c ∷ s) r
    by_test true e k =
        let low : is_ascii c ≡ true = low_ascii c (grind arith) in
        number_good (38 ∷ 35 ∷ c ∷ []) 16 s r (omega arith) (omega arith) (rw low refl) k
    by_test false e k = number_good (38 ∷ 35 ∷ []) 10 (c ∷ s) r (omega arith) (omega arith) refl k

-- ---- names

alnum_ascii : (c : ℕ) → is_alnum c ≡ true → is_ascii c ≡ true
unfolding is_alnum is_letter is_digit_of is_ascii
alnum_ascii c h = grind arith

letter_ascii : (c : ℕ) → is_letter c ≡ true → is_ascii c ≡ true
unfolding is_letter is_ascii
letter_ascii c h = grind arith

tail_ascii : (s : List ℕ) → is_tail s ≡ true → all_pass is_ascii s ≡ true
tail_ascii [] h = refl
tail_ascii (c ∷ s) h = by_test (is_alnum c) refl (is_tail s) refl (c == 59) refl (is_null s) refl h (tail_ascii s)
  where
    ended : (r : List ℕ) → is_null r ≡ true → all_pass is_ascii r ≡ true
    ended [] e = refl
    ended (d ∷ r) e = absurd (cc)

    by_test : (a : Bool) → is_alnum c ≡ a → (x : Bool) → is_tail s ≡ x → (b : Bool) → (c == 59) ≡ b → (n : Bool) → is_null s ≡ n → (a && x) || (b && n) ≡ true
        → (is_tail s ≡ true → all_pass is_ascii s ≡ true) → is_ascii c && all_pass is_ascii s ≡ true
    by_test true e true f b g n i h more = and_from (is_ascii c) (all_pass is_ascii s) (alnum_ascii c e) (more f)
    by_test a e x f true g true i h more = and_from (is_ascii c) (all_pass is_ascii s) (low_ascii c (let same : c ≡ 59 = eqb-true c 59 g in omega arith)) (ended s i)
    by_test true e false f true g false i h more = absurd (cc)
    by_test true e false f false g n i h more = absurd (cc)
    by_test false e x f true g false i h more = absurd (cc)
    by_test false e x f false g n i h more = absurd (cc)

record IsAscii (n : List ℕ) : Type 0 where
  low : all_pass is_ascii n ≡ true
  long : 3 ≤ length n

good_ascii : (n : List ℕ) → is_good n ≡ true → IsAscii n
good_ascii [] h = absurd (cc)
good_ascii (a ∷ []) h = absurd (cc)
good_ascii (a ∷ b ∷ []) h = absurd (cc)
good_ascii (a ∷ b ∷ c ∷ s) h =
    let first = and_parts (a == 38) (is_letter b && (is_alnum c && is_tail s)) h in
    let second = and_parts (is_letter b) (is_alnum c && is_tail s) first.1 in
    let third = and_parts (is_alnum c) (is_tail s) second.1 in
    let same : a ≡ 38 = eqb-true a 38 first.0 in
    record { low = rw (low_ascii a (omega arith), letter_ascii b second.0, alnum_ascii c third.0, tail_ascii s third.1) refl; long = omega arith }

found_good : (t : List Entry) (s : List ℕ) (f : Found) (r : Reference) → SoundNames t → longest t s ≡ Some f → r ≡ record { points = f.points; len = length f.name } → GoodReference s r
found_good t s f r names h is =
    let last : IsLast t s f = found_last t [] s f h in
    let e : Entered t f.name f.points = entry_of t f.name f.points last.own in
    let good : is_good f.name ≡ true = subst (λ n. is_good n ≡ true) e.name_is (and_parts (is_good e.entry.name) (nat_le (length e.entry.name) 64) (names.good e.entry e.among)).0 in
    let ascii = good_ascii f.name good in
    record {
      written = f.name;
      rest = f.rest;
      is = sym last.cut;
      len = ap (λ (x : Reference). x.len) is;
      low = ascii.low;
      long = ascii.long;
      scalars = subst (λ (x : Reference). are_points x.points ≡ true) (sym is) (subst (λ ps. are_points ps ≡ true) e.points_are (names.pointed e.entry e.among));
    }

named_good : (t : List Entry) (value : Bool) (s : List ℕ) (r : Reference) → SoundNames t → named value (longest t s) ≡ Some r → GoodReference s r
named_good t value s r names h = by_found (longest t s) refl h
  where
    by_found : (o : Option Found) → longest t s ≡ o → named value o ≡ Some r → GoodReference s r
    by_found None e k = absurd (cc)
    by_found (Some f) e k = by_test (is_blocked value f) k
      where
        by_test : (b : Bool) → cond b None (Some (record { points = f.points; len = length f.name })) ≡ Some r → GoodReference s r
        by_test true k = absurd (cc)
        by_test false k = let is : record { points = f.points; len = length f.name } ≡ r = cc in found_good t s f r names e (sym is)

pub reference_good : (t : List Entry) (value : Bool) (s : List ℕ) (r : Reference) → SoundNames t → reference t value (38 ∷ s) ≡ Some r → GoodReference (38 ∷ s) r
unfolding reference
reference_good t value [] r names h = named_good t value (38 ∷ []) r names h
reference_good t value (d ∷ s) r names h = by_test (35 == d) refl h
  where
    by_test : (b : Bool) → (35 == d) ≡ b → reference_by t value (cond b (Some s) None) (38 ∷ d ∷ s) ≡ Some r → GoodReference (38 ∷ d ∷ s) r
    by_test true e k = let same : 35 ≡ d = eqb-true 35 d e in subst (λ x. GoodReference (38 ∷ x ∷ s) r) same (hash_good s r k)
    by_test false e k = named_good t value (38 ∷ d ∷ s) r names k

-- ---- code points as bytes

scalar_is : (c : ℕ) → is_point c ≡ true → IsScalar c
scalar_is c h = grind arith

has_byte_at : (d : ℕ) (s : List ℕ) → ((k : ℕ) → k < length s → get_or s k 0 ≡ d → ⊥) → has_byte d s ≡ false
has_byte_at d [] none = refl
has_byte_at d (c ∷ s) none = or_from (c == d) (has_byte d s) (by_test (c == d) refl) (has_byte_at d s (λ k l. none (suc k) (omega arith)))
  where
    by_test : (b : Bool) → (c == d) ≡ b → b ≡ false
    by_test true e = absurd (none 0 (omega arith) (eqb-true c d e))
    by_test false e = refl

encode_no_zero : (c : ℕ) → is_point c ≡ true → has_byte 0 (encode c) ≡ false
encode_no_zero c h = has_byte_at 0 (encode c) (λ k l e. zero_no k l e)
  where
    some : (c ≡ 0) → ⊥
    some e = grind arith

    zero_no : (k : ℕ) → k < length (encode c) → get_or (encode c) k 0 ≡ 0 → ⊥
    zero_no k l e = some (inside_one c [] (encode c) k (sym (append-nil (encode c))) l (rw e (omega arith)) ∙ e)

pub no_byte_both : (d : ℕ) (xs ys : List ℕ) → has_byte d xs ≡ false → has_byte d ys ≡ false → has_byte d (xs ++ ys) ≡ false
no_byte_both d [] ys h i = i
no_byte_both d (x ∷ xs) ys h i = by_test (x == d) h (no_byte_both d xs ys)
  where
    by_test : (b : Bool) → b || has_byte d xs ≡ false → (has_byte d xs ≡ false → has_byte d ys ≡ false → has_byte d (xs ++ ys) ≡ false) → b || has_byte d (xs ++ ys) ≡ false
    by_test true e more = absurd (cc)
    by_test false e more = more e i

-- what one or two code points are as bytes
pub record PointBytes (ps : List ℕ) : Type 0 where
  pub utf8 : is_utf8 (encode_utf8_all ps) ≡ true
  pub no_zero : has_byte 0 (encode_utf8_all ps) ≡ false
  pub short : length (encode_utf8_all ps) ≤ 8

encode_short : (c : ℕ) → length (encode c) ≤ 4
encode_short c = let b = len_utf8_bounds c in let l = length-encode c in omega arith

pub point_bytes : (ps : List ℕ) → are_points ps ≡ true → PointBytes ps
point_bytes [] h = absurd (cc)
point_bytes (a ∷ []) h = record {
  utf8 = is_utf8-from_IsUtf8 _ (IsUtf8-append (encode a) [] (IsUtf8-encode a (scalar_is a h)) IsUtf8-nil);
  no_zero = no_byte_both 0 (encode a) [] (encode_no_zero a h) refl;
  short = let e = encode_short a in simp length-append (omega arith);
}
point_bytes (a ∷ b ∷ []) h = let both = and_parts (is_point a) (is_point b) h in record {
  utf8 = is_utf8-from_IsUtf8 _ (IsUtf8-append (encode a) (encode b ++ []) (IsUtf8-encode a (scalar_is a both.0)) (IsUtf8-append (encode b) [] (IsUtf8-encode b (scalar_is b both.1)) IsUtf8-nil));
  no_zero = no_byte_both 0 (encode a) (encode b ++ []) (encode_no_zero a both.0) (no_byte_both 0 (encode b) [] (encode_no_zero b both.1) refl);
  short = let e = encode_short a in let f = encode_short b in simp length-append (omega arith);
}
point_bytes (a ∷ b ∷ c ∷ ps) h = absurd (cc)
