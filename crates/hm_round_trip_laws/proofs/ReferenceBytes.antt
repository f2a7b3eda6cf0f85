-- A reference has '&' and then letters, digits, '#' and ';' alone.
use Rattle.std.proofs.Common.{◌≡◌, ℕ, suc, ◌+◌, ◌≤◌, Bool, true, false, cond, ◌&&◌, ◌||◌, ◌==◌, nat_lt, ◌<◌, inl, inr, List, [], ◌∷◌, ◌++◌, length, Option, Some, None, refl, ap, sym, subst, ◌∙◌, arith, append_assoc, length-append}
use Rattle.std.proofs.lemmas.Bool.{and_parts, and_from, eqb-true, cases_lt}
use Rattle.std.specs.Char.{digit_value}
use Rattle.hm_base.specs.Bytes.{front, rest_after, all_pass, is_null, is_digit_of, is_alnum, is_letter}
use Rattle.hm_refs.specs.Laws.{IsLongest}
use Rattle.hm_refs.specs.Names.{Entry, Found, longest, is_good, is_tail}
use Rattle.hm_refs.specs.Numbers.{point_of}
use Rattle.hm_refs.specs.References.{Reference, value_of, numeric, decimal_number, hexadecimal, hash, is_blocked, named, reference_by, reference}
use Rattle.hm_refs.specs.Tables.{IsTable}
use Rattle.hm_refs.proofs.Found.{longest_is_longest, good_of}
use Rattle.hm_token_laws.proofs.Plain.{front_and_rest, front_passes, pass_both}
use Rattle.hm_round_trip_laws.specs.References.{is_reference_byte, TakesFew, ReferencesTakeFewBytes}

-- ---- numbers

pub alnum_few : (c : ℕ) → is_alnum c ≡ true → is_reference_byte c ≡ true
unfolding is_reference_byte
alnum_few c h = rw h refl

pub letter_few : (c : ℕ) → is_letter c ≡ true → is_reference_byte c ≡ true
unfolding is_reference_byte is_alnum
letter_few c h = rw h refl

decimal_few : (c : ℕ) → is_digit_of 10 c ≡ true → is_reference_byte c ≡ true
unfolding is_reference_byte is_alnum
decimal_few c h = rw (h, or_true (is_letter c)) refl
  where
    or_true : (b : Bool) → b || true ≡ true
    or_true true = refl
    or_true false = refl

below_digits : (d : ℕ) → d < 48 → is_digit_of 16 d ≡ true → ⊥
unfolding is_digit_of
below_digits d h e = grind arith

below_capitals : (d : ℕ) → 58 ≤ d → d < 65 → is_digit_of 16 d ≡ true → ⊥
unfolding is_digit_of
below_capitals d g h e = grind arith

below_small : (d : ℕ) → 91 ≤ d → d < 97 → is_digit_of 16 d ≡ true → ⊥
unfolding is_digit_of
below_small d g h e = grind arith

above_small : (d : ℕ) → 123 ≤ d → is_digit_of 16 d ≡ true → ⊥
unfolding is_digit_of
above_small d g e = grind arith

a_digit : (d : ℕ) → 48 ≤ d → d < 58 → is_digit_of 10 d ≡ true
unfolding is_digit_of
a_digit d g h = grind arith

a_capital : (d : ℕ) → 65 ≤ d → d < 91 → is_letter d ≡ true
unfolding is_letter
a_capital d g h = grind arith

a_small : (d : ℕ) → 97 ≤ d → d < 123 → is_letter d ≡ true
unfolding is_letter
a_small d g h = grind arith

hex_few : (d : ℕ) → is_digit_of 16 d ≡ true → is_reference_byte d ≡ true
hex_few d e = elim (cases_lt d 48) [
  | inl h ↦ absurd (below_digits d h e)
  | inr h1 ↦ elim (cases_lt d 58) [
    | inl h ↦ decimal_few d (a_digit d h1 h)
    | inr h2 ↦
        elim (cases_lt d 65) [
          | inl h ↦ absurd (below_capitals d h2 h e)
          | inr h3 ↦ elim (cases_lt d 91) [
            | inl h ↦ letter_few d (a_capital d h3 h)
            | inr h4 ↦
                elim (cases_lt d 97) [ inl h ↦ absurd (below_small d h4 h e) | inr h5 ↦ elim (cases_lt d 123) [ inl h ↦ letter_few d (a_small d h5 h) | inr h6 ↦ absurd (above_small d h6 e) ] ]
          ]
        ]
  ]
]

lt_more : (x m n : ℕ) → m ≤ n → nat_lt x m ≡ true → nat_lt x n ≡ true
lt_more x m n h e = grind arith

digit_few : (base c : ℕ) → base ≤ 16 → is_digit_of base c ≡ true → is_reference_byte c ≡ true
unfolding is_digit_of
digit_few base c h d = hex_few c (lt_more (digit_value c) base 16 h d)

semicolon_few : (c : ℕ) → 59 ≡ c → is_reference_byte c ≡ true
unfolding is_reference_byte is_alnum is_letter is_digit_of
semicolon_few c h = subst (λ x. is_reference_byte x ≡ true) h refl

x_few : (c : ℕ) → 120 == c || 88 == c ≡ true → is_reference_byte c ≡ true
unfolding is_reference_byte is_alnum is_letter is_digit_of
x_few c h = grind arith

digits_few : (base : ℕ) (s : List ℕ) → base ≤ 16 → all_pass (is_digit_of base) s ≡ true → all_pass is_reference_byte s ≡ true
digits_few base [] h d = refl
digits_few base (c ∷ s) h d =
    let both = and_parts (is_digit_of base c) (all_pass (is_digit_of base) s) d in
    and_from (is_reference_byte c) (all_pass is_reference_byte s) (digit_few base c h both.0) (digits_few base s h both.1)

-- these bytes stand before the digits, after '&'
number_few : (before : List ℕ) (base : ℕ) (s : List ℕ) (r : Reference) → base ≤ 16 → all_pass is_reference_byte before ≡ true
    → numeric (suc (length before)) base (front (is_digit_of base) s) (rest_after (is_digit_of base) s) ≡ Some r → TakesFew (38 ∷ (before ++ s)) r
number_few before base s r low few h =
    by_digits (front (is_digit_of base) s) (rest_after (is_digit_of base) s) (front_and_rest (is_digit_of base) s) (digits_few base (front (is_digit_of base) s) low (front_passes (is_digit_of base) s)) h
  where
    short : (ds rest : List ℕ) → s ≡ ds ++ rest → all_pass is_reference_byte ds ≡ true → (n : ℕ) → n ≡ suc (length before) + length ds → r.len ≡ n → TakesFew (38 ∷ (before ++ s)) r
    short ds rest e a n m is = record {
      inner = before ++ ds;
      rest = rest;
      is = ap (λ x. 38 ∷ x) (ap (λ x. before ++ x) e ∙ sym (append_assoc before ds rest));
      len = omega (arith, is, m, length-append before ds);
      few = pass_both is_reference_byte before ds few a;
    }

    ended : (d : ℕ) (ds rest : List ℕ) (c : ℕ) (b : Bool) → (59 == c) ≡ b → s ≡ (d ∷ ds) ++ c ∷ rest → all_pass is_reference_byte (d ∷ ds) ≡ true
        → r.len ≡ suc (length before) + length (d ∷ ds) + cond b 1 0 → TakesFew (38 ∷ (before ++ s)) r
    ended d ds rest c false f e a is = short (d ∷ ds) (c ∷ rest) e a _ (omega arith) is
    ended d ds rest c true f e a is =
        let low : is_reference_byte c ≡ true = semicolon_few c (eqb-true 59 c f) in
        short (d ∷ ds ++ c ∷ []) rest (e ∙ sym (append_assoc (d ∷ ds) (c ∷ []) rest)) (pass_both is_reference_byte (d ∷ ds) (c ∷ []) a (rw low refl)) _ (simp length-append (omega arith)) is

    by_digits : (ds rest : List ℕ) → s ≡ ds ++ rest → all_pass is_reference_byte ds ≡ true → numeric (suc (length before)) base ds rest ≡ Some r → TakesFew (38 ∷ (before ++ s)) r
    by_digits [] rest e a h = absurd (cc)
    by_digits (d ∷ ds) [] e a h =
        let is : record { points = point_of (value_of base (d ∷ ds)) ∷ []; len = suc (length before) + length (d ∷ ds) + 0 } ≡ r = cc in
        short (d ∷ ds) [] e a _ (omega arith) (ap (λ (x : Reference). x.len) (sym is))
    by_digits (d ∷ ds) (c ∷ rest) e a h =
        let is : record { points = point_of (value_of base (d ∷ ds)) ∷ []; len = suc (length before) + length (d ∷ ds) + cond (59 == c) 1 0 } ≡ r = cc in
        ended d ds rest c (59 == c) refl e a (ap (λ (x : Reference). x.len) (sym is))

hash_few : (s : List ℕ) (r : Reference) → hash s ≡ Some r → TakesFew (38 ∷ 35 ∷ s) r
unfolding is_reference_byte is_alnum is_letter is_digit_of
hash_few [] r h = absurd (cc)
hash_few (c ∷ s) r h = by_test (120 == c || 88 == c) refl h
  where
    by_test : (b : Bool) → (120 == c || 88 == c) ≡ b → cond b (hexadecimal s) (decimal_number (c ∷ s)) ≡ Some r → TakesFew (38 ∷ 35 ∷ c ∷ s) r
    by_test true e k = number_few (35 ∷ c ∷ []) 16 s r (omega arith) (rw (x_few c e) refl) k
    by_test false e k = number_few (35 ∷ []) 10 (c ∷ s) r (omega arith) refl k

-- ---- names

tail_few : (s : List ℕ) → is_tail s ≡ true → all_pass is_reference_byte s ≡ true
tail_few [] h = refl
tail_few (c ∷ s) h = by_test (is_alnum c) refl (is_tail s) refl (c == 59) refl (is_null s) refl h (tail_few s)
  where
    ended : (r : List ℕ) → is_null r ≡ true → all_pass is_reference_byte r ≡ true
    ended [] e = refl
    ended (d ∷ r) e = absurd (cc)

    by_test : (a : Bool) → is_alnum c ≡ a → (x : Bool) → is_tail s ≡ x → (b : Bool) → (c == 59) ≡ b → (n : Bool) → is_null s ≡ n → (a && x) || (b && n) ≡ true
        → (is_tail s ≡ true → all_pass is_reference_byte s ≡ true) → is_reference_byte c && all_pass is_reference_byte s ≡ true
    by_test true e true f b g n i h more = and_from (is_reference_byte c) (all_pass is_reference_byte s) (alnum_few c e) (more f)
    by_test a e x f true g true i h more = and_from (is_reference_byte c) (all_pass is_reference_byte s) (semicolon_few c (sym (eqb-true c 59 g))) (ended s i)
    by_test true e false f true g false i h more = absurd (cc)
    by_test true e false f false g n i h more = absurd (cc)
    by_test false e x f true g false i h more = absurd (cc)
    by_test false e x f false g n i h more = absurd (cc)

-- a name begins with '&'
record Ampersand (n : List ℕ) : Type 0 where
  inner : List ℕ
  is : n ≡ 38 ∷ inner
  few : all_pass is_reference_byte inner ≡ true

good_few : (n : List ℕ) → is_good n ≡ true → Ampersand n
good_few [] h = absurd (cc)
good_few (a ∷ []) h = absurd (cc)
good_few (a ∷ b ∷ []) h = absurd (cc)
good_few (a ∷ b ∷ c ∷ s) h =
    let first = and_parts (a == 38) (is_letter b && (is_alnum c && is_tail s)) h in
    let second = and_parts (is_letter b) (is_alnum c && is_tail s) first.1 in
    let third = and_parts (is_alnum c) (is_tail s) second.1 in
    record { inner = b ∷ c ∷ s; is = ap (λ x. x ∷ b ∷ c ∷ s) (eqb-true a 38 first.0); few = rw (letter_few b second.0, alnum_few c third.0, tail_few s third.1) refl }

named_few : (t : List Entry) (value : Bool) (s : List ℕ) (r : Reference) → IsTable t → named value (longest t s) ≡ Some r → TakesFew s r
named_few t value s r k h = by_found (longest t s) refl h
  where
    taken : (f : Found) → longest t s ≡ Some f → record { points = f.points; len = length f.name } ≡ r → TakesFew s r
    taken f e is =
        let l : IsLongest t s f = longest_is_longest t s f e in
        let a = good_few f.name (good_of t k f.name f.points l.own) in
        record { inner = a.inner; rest = f.rest; is = sym l.cut ∙ ap (λ x. x ++ f.rest) a.is; len = sym (ap (λ (x : Reference). x.len) is) ∙ ap length a.is; few = a.few }

    by_found : (o : Option Found) → longest t s ≡ o → named value o ≡ Some r → TakesFew s r
    by_found None e k = absurd (cc)
    by_found (Some f) e k = by_test (is_blocked value f) k
      where
        by_test : (b : Bool) → cond b None (Some (record { points = f.points; len = length f.name })) ≡ Some r → TakesFew s r
        by_test true k = absurd (cc)
        by_test false k = taken f e (cc)

pub references_take_few_bytes : ReferencesTakeFewBytes
unfolding reference
references_take_few_bytes t value [] r k h = named_few t value [] r k h
references_take_few_bytes t value (c ∷ []) r k h = one (38 == c) h
  where
    one : (b : Bool) → reference_by t value (cond b None None) (c ∷ []) ≡ Some r → TakesFew (c ∷ []) r
    one true h = named_few t value (c ∷ []) r k h
    one false h = named_few t value (c ∷ []) r k h
references_take_few_bytes t value (c ∷ d ∷ s) r k h = by_tests (38 == c) refl (35 == d) refl h
  where
    by_tests : (a : Bool) → (38 == c) ≡ a → (b : Bool) → (35 == d) ≡ b → reference_by t value (cond a (cond b (Some s) None) None) (c ∷ d ∷ s) ≡ Some r → TakesFew (c ∷ d ∷ s) r
    by_tests true e true f h =
        subst (λ x. TakesFew (x ∷ d ∷ s) r) (eqb-true 38 c e) (subst (λ x. TakesFew (38 ∷ x ∷ s) r) (eqb-true 35 d f) (hash_few s r h))
    by_tests true e false f h = named_few t value (c ∷ d ∷ s) r k h
    by_tests false e b f h = named_few t value (c ∷ d ∷ s) r k h
