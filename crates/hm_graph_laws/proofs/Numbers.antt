-- References by number.
use Rattle.std.proofs.Common.{◌≡◌, ℕ, ◌+◌, ◌^◌, ◌<◌, ◌≤◌, Bool, true, false, cond, ◌||◌, ◌==◌, not, List, [], ◌∷◌, ◌++◌, length, Option, Some, None, refl, sym, ap, ◌∙◌, subst, append_assoc, inl, inr, ◌⊎◌, arith, length-append}
use Rattle.std.specs.Fmt as digits
use Rattle.std.proofs.lemmas.Bool.{and_parts}
use Rattle.hm_base.specs.Bytes.{all_pass, rest_after, front, head_is, is_digit, is_digit_of, is_hex, is_null}
use Rattle.hm_refs.specs.Laws.{Gives, is_shorter_in_hexadecimal}
use Rattle.hm_refs.specs.Names.{Entry}
use Rattle.hm_refs.specs.Numbers.{best_number, point_of}
use Rattle.hm_refs.specs.References as references
use Rattle.hm_refs.specs.References.{Reference, decimal_number, is_semicolon, numeric, reference, value_of}
use Rattle.hm_refs.specs.Tables.{IsIn, IsTable, first, later}
use Rattle.hm_refs.proofs.Bools.{eq_of}
use Rattle.hm_refs.proofs.NumberLaws.{best_least}
use Rattle.hm_base.proofs.Bytes.{front_passes}
use Rattle.hm_refs.proofs.Shortest.{digits_give, shorter, shortest}
use Rattle.hm_spelling_spec.specs.Characters.{Spot, is_value}
use Rattle.hm_graph_laws.specs.States.{decimal, hexadecimal, nothing}
use Rattle.hm_graph_laws.specs.Steps.{Fits, keeps}
use Rattle.hm_graph_laws.proofs.Closing.{ten_hex}
use Rattle.hm_graph_laws.specs.CharacterEdges.{Choice, by_decimal, by_hexadecimal, choice}
use Rattle.hm_graph_laws.proofs.In.{in_append, in_left, in_right}
use Rattle.hm_graph_laws.proofs.Pieces.{Refers}
use Rattle.hm_graph_laws.proofs.CharacterReading.{IsNumber, same_length}

-- ---- runs of digits

front_all : (p : ℕ → Bool) (ds x : List ℕ) → all_pass p ds ≡ true → head_is p x ≡ false → front p (ds ++ x) ≡ ds
front_all p [] [] a h = refl
front_all p [] (c ∷ x) a h = rw h refl
front_all p (d ∷ ds) x a h = let both = and_parts (p d) (all_pass p ds) a in rw both.0 (ap (λ w. d ∷ w) (front_all p ds x both.1 h))

after_all : (p : ℕ → Bool) (ds x : List ℕ) → all_pass p ds ≡ true → head_is p x ≡ false → rest_after p (ds ++ x) ≡ x
after_all p [] [] a h = refl
after_all p [] (c ∷ x) a h = rw h refl
after_all p (d ∷ ds) x a h = let both = and_parts (p d) (all_pass p ds) a in rw both.0 (after_all p ds x both.1 h)

front_after : (p : ℕ → Bool) (s : List ℕ) → (front p s ++ rest_after p s ≡ s) × (head_is p (rest_after p s) ≡ false)
front_after p [] = (refl, refl)
front_after p (c ∷ s) = by_test (p c) refl (front_after p s)
  where
    by_test : (b : Bool) → p c ≡ b → (front p s ++ rest_after p s ≡ s) × (head_is p (rest_after p s) ≡ false) → (cond b (c ∷ front p s) [] ++ cond b (rest_after p s) (c ∷ s) ≡ c ∷ s) × (head_is p (cond b (rest_after p s) (c ∷ s)) ≡ false)
    by_test true h more = (ap (λ w. c ∷ w) more.0, more.1)
    by_test false h more = (refl, h)

-- ---- references by digits

reference_hash : (t : List Entry) (v : Bool) (s : List ℕ) → reference t v (38 ∷ 35 ∷ s) ≡ references.hash s
unfolding reference
reference_hash t v s = refl

no_120 : is_digit_of 10 120 ≡ false
unfolding is_digit_of
no_120 = refl

no_88 : is_digit_of 10 88 ≡ false
unfolding is_digit_of
no_88 = refl

not_x : (d : ℕ) → is_digit_of 10 d ≡ true → (120 == d || 88 == d) ≡ false
not_x d h = by_tests (120 == d) (88 == d) refl refl
  where
    by_tests : (a b : Bool) → (120 == d) ≡ a → (88 == d) ≡ b → (a || b) ≡ false
    by_tests true b e f = let g = subst (λ z. is_digit_of 10 z ≡ true) (sym (eq_of 120 d e)) h in let n = no_120 in absurd (cc)
    by_tests false true e f = let g = subst (λ z. is_digit_of 10 z ≡ true) (sym (eq_of 88 d f)) h in let n = no_88 in absurd (cc)
    by_tests false false e f = refl

pub decimal_read : (t : List Entry) (v : Bool) (ds x : List ℕ) → all_pass (is_digit_of 10) ds ≡ true → is_null ds ≡ false → head_is (is_digit_of 10) x ≡ false → reference t v (38 ∷ 35 ∷ (ds ++ x)) ≡ numeric 2 10 ds x
decimal_read t v [] x a s h = absurd (cc)
decimal_read t v (d ∷ ds) x a s h = reference_hash t v (d ∷ (ds ++ x)) ∙ by_front (and_parts (is_digit_of 10 d) (all_pass (is_digit_of 10) ds) a)
  where
    by_front : (is_digit_of 10 d ≡ true) × (all_pass (is_digit_of 10) ds ≡ true) → references.hash (d ∷ (ds ++ x)) ≡ numeric 2 10 (d ∷ ds) x
    by_front both = rw (not_x d both.0, both.0, front_all (is_digit_of 10) ds x both.1 h, after_all (is_digit_of 10) ds x both.1 h) refl

pub hex_read : (t : List Entry) (v : Bool) (ds x : List ℕ) → all_pass (is_digit_of 16) ds ≡ true → head_is (is_digit_of 16) x ≡ false → reference t v (38 ∷ 35 ∷ 120 ∷ (ds ++ x)) ≡ numeric 3 16 ds x
hex_read t v ds x a h = reference_hash t v (120 ∷ (ds ++ x)) ∙ rw (front_all (is_digit_of 16) ds x a h, after_all (is_digit_of 16) ds x a h) refl

numeric_some : (before base c : ℕ) (ds x : List ℕ) (n : ℕ) → is_null ds ≡ false → point_of (value_of base ds) ≡ c → before + length ds + cond (head_is is_semicolon x) 1 0 ≡ n → numeric before base ds x ≡ Some (record { points = c ∷ []; len = n })
numeric_some before base c [] x n s p l = absurd (cc)
numeric_some before base c (d ∷ ds) x n s p l = rw (p, l) refl

no_semicolon_in : is_digit_of 10 59 ≡ false
unfolding is_digit_of
no_semicolon_in = refl

no_semicolon_hex : is_digit_of 16 59 ≡ false
unfolding is_digit_of
no_semicolon_hex = refl

no_either : (p q : ℕ → Bool) (x : List ℕ) → not (head_is (λ c. p c || q c) x) ≡ true → (head_is p x ≡ false) × (head_is q x ≡ false)
no_either p q [] h = (refl, refl)
no_either p q (c ∷ x) h = by_tests (p c) (q c) h
  where
    by_tests : (a b : Bool) → not (a || b) ≡ true → (a ≡ false) × (b ≡ false)
    by_tests true b k = absurd (cc)
    by_tests false true k = absurd (cc)
    by_tests false false k = (refl, refl)

decimal_open : (t : List Entry) (spot : Spot) (c : ℕ) (ds x : List ℕ) → Gives 10 ds c → keeps t spot decimal x ≡ true → Refers t spot (c ∷ []) (38 ∷ 35 ∷ ds) x
decimal_open t spot c ds x d kept =
    let e = no_either is_digit is_semicolon x kept in
    record { inner = 35 ∷ ds; bytes = refl; found = decimal_read t (is_value spot) ds x d.digits d.some e.0 ∙ numeric_some 2 10 c ds x (length (38 ∷ 35 ∷ ds)) d.some d.value (rw e.1 (omega arith)) }

pub decimal_closed : (t : List Entry) (spot : Spot) (c : ℕ) (ds x : List ℕ) → Gives 10 ds c → Refers t spot (c ∷ []) (38 ∷ 35 ∷ (ds ++ 59 ∷ [])) x
decimal_closed t spot c ds x d = record {
  inner = 35 ∷ (ds ++ 59 ∷ []);
  bytes = refl;
  found = ap (λ w. reference t (is_value spot) (38 ∷ 35 ∷ w)) (append_assoc ds (59 ∷ []) x) ∙ decimal_read t (is_value spot) ds (59 ∷ x) d.digits d.some no_semicolon_in
      ∙ numeric_some 2 10 c ds (59 ∷ x) (length (38 ∷ 35 ∷ (ds ++ 59 ∷ []))) d.some d.value (omega (arith, length-append ds (59 ∷ [])));
}

hex_open : (t : List Entry) (spot : Spot) (c : ℕ) (ds x : List ℕ) → Gives 16 ds c → keeps t spot hexadecimal x ≡ true → Refers t spot (c ∷ []) (38 ∷ 35 ∷ 120 ∷ ds) x
hex_open t spot c ds x d kept =
    let e = no_either is_hex is_semicolon x kept in
    record { inner = 35 ∷ 120 ∷ ds; bytes = refl; found = hex_read t (is_value spot) ds x d.digits e.0 ∙ numeric_some 3 16 c ds x (length (38 ∷ 35 ∷ 120 ∷ ds)) d.some d.value (rw e.1 (omega arith)) }

pub hex_closed : (t : List Entry) (spot : Spot) (c : ℕ) (ds x : List ℕ) → Gives 16 ds c → Refers t spot (c ∷ []) (38 ∷ 35 ∷ 120 ∷ (ds ++ 59 ∷ [])) x
hex_closed t spot c ds x d = record {
  inner = 35 ∷ 120 ∷ (ds ++ 59 ∷ []);
  bytes = refl;
  found = ap (λ w. reference t (is_value spot) (38 ∷ 35 ∷ 120 ∷ w)) (append_assoc ds (59 ∷ []) x) ∙ hex_read t (is_value spot) ds (59 ∷ x) d.digits no_semicolon_hex
      ∙ numeric_some 3 16 c ds (59 ∷ x) (length (38 ∷ 35 ∷ 120 ∷ (ds ++ 59 ∷ []))) d.some d.value (omega (arith, length-append ds (59 ∷ [])));
}

-- a number that gives c, in decimal digits
pub decimal_refers : (t : List Entry) (spot : Spot) (c n : ℕ) (x : List ℕ) → n < 2 ^ 64 → point_of n ≡ c → keeps t spot decimal x ≡ true → Refers t spot (c ∷ []) (38 ∷ 35 ∷ digits.decimal n) x
decimal_refers t spot c n x h p kept = decimal_open t spot c (digits.decimal n) x (digits_give 10 n c (omega arith) (omega arith) (omega arith) p) kept

-- ---- choices

-- a choice of a number is one of these
pub record IsDecimalChoice (o : Option ℕ) (e : Choice) : Type 0 where
  pub number : ℕ
  pub number_is : o ≡ Some number
  pub choice_is : (e ≡ choice (38 ∷ 35 ∷ digits.decimal number) decimal) ⊎ (e ≡ choice (38 ∷ 35 ∷ (digits.decimal number ++ 59 ∷ [])) nothing)

pub two_in : {A : Type 0} (e x y : A) → IsIn e (x ∷ y ∷ []) → (e ≡ x) ⊎ (e ≡ y)
two_in e x y (first zs) = inl refl
two_in e x y (later z zs (first ws)) = inr refl
two_in e x y (later z zs (later w ws i)) = elim i [ ]

decimal_is : (o : Option ℕ) (e : Choice) → IsIn e (by_decimal o) → IsDecimalChoice o e
decimal_is None e i = elim i [ ]
decimal_is (Some n) e i = record { number = n; number_is = refl; choice_is = two_in e (choice (38 ∷ 35 ∷ digits.decimal n) decimal) (choice (38 ∷ 35 ∷ (digits.decimal n ++ 59 ∷ [])) nothing) i }

pub record IsHexadecimalChoice (c : ℕ) (e : Choice) : Type 0 where
  pub in_range : is_shorter_in_hexadecimal c ≡ true
  pub choice_is : (e ≡ choice (38 ∷ 35 ∷ 120 ∷ digits.digits 16 false c) hexadecimal) ⊎ (e ≡ choice (38 ∷ 35 ∷ 120 ∷ (digits.digits 16 false c ++ 59 ∷ [])) nothing)

hexadecimal_is : (c : ℕ) (e : Choice) → IsIn e (by_hexadecimal c) → IsHexadecimalChoice c e
hexadecimal_is c e i = by_test (is_shorter_in_hexadecimal c) refl i
  where
    by_test : (b : Bool) → is_shorter_in_hexadecimal c ≡ b → IsIn e (cond b (choice (38 ∷ 35 ∷ 120 ∷ digits.digits 16 false c) hexadecimal ∷ choice (38 ∷ 35 ∷ 120 ∷ (digits.digits 16 false c ++ 59 ∷ [])) nothing ∷ []) []) → IsHexadecimalChoice c e
    by_test true h j = record { in_range = h; choice_is = two_in e (choice (38 ∷ 35 ∷ 120 ∷ digits.digits 16 false c) hexadecimal) (choice (38 ∷ 35 ∷ 120 ∷ (digits.digits 16 false c ++ 59 ∷ [])) nothing) j }
    by_test false h j = elim j [ ]

number_choice_is : (c : ℕ) (e : Choice) → IsIn e (by_decimal (best_number c) ++ by_hexadecimal c) → IsDecimalChoice (best_number c) e ⊎ IsHexadecimalChoice c e
number_choice_is c e i = by_part (in_append e (by_decimal (best_number c)) (by_hexadecimal c) i)
  where
    by_part : IsIn e (by_decimal (best_number c)) ⊎ IsIn e (by_hexadecimal c) → IsDecimalChoice (best_number c) e ⊎ IsHexadecimalChoice c e
    by_part (inl j) = inl (decimal_is (best_number c) e j)
    by_part (inr j) = inr (hexadecimal_is c e j)

-- the choices of a number are references to the code point
pub number_reads : (t : List Entry) → IsTable t → (spot : Spot) (c : ℕ) (e : Choice) → IsIn e (by_decimal (best_number c) ++ by_hexadecimal c) → (x : List ℕ) → keeps t spot e.to x ≡ true → Refers t spot (c ∷ []) e.bytes x
number_reads t k spot c e i x h = by_kind (number_choice_is c e i)
  where
    go : (e' : Choice) → e ≡ e' → (keeps t spot e'.to x ≡ true → Refers t spot (c ∷ []) e'.bytes x) → Refers t spot (c ∷ []) e.bytes x
    go e' is each = subst (λ f. Refers t spot (c ∷ []) f.bytes x) (sym is) (each (subst (λ f. keeps t spot f.to x ≡ true) is h))

    from_decimal : (n : ℕ) → Gives 10 (digits.decimal n) c → (e ≡ choice (38 ∷ 35 ∷ digits.decimal n) decimal) ⊎ (e ≡ choice (38 ∷ 35 ∷ (digits.decimal n ++ 59 ∷ [])) nothing) → Refers t spot (c ∷ []) e.bytes x
    from_decimal n d (inl is) = go (choice (38 ∷ 35 ∷ digits.decimal n) decimal) is (λ kept. decimal_open t spot c (digits.decimal n) x d kept)
    from_decimal n d (inr is) = go (choice (38 ∷ 35 ∷ (digits.decimal n ++ 59 ∷ [])) nothing) is (λ kept. decimal_closed t spot c (digits.decimal n) x d)

    from_hexadecimal : Gives 16 (digits.digits 16 false c) c → (e ≡ choice (38 ∷ 35 ∷ 120 ∷ digits.digits 16 false c) hexadecimal) ⊎ (e ≡ choice (38 ∷ 35 ∷ 120 ∷ (digits.digits 16 false c ++ 59 ∷ [])) nothing) → Refers t spot (c ∷ []) e.bytes x
    from_hexadecimal d (inl is) = go (choice (38 ∷ 35 ∷ 120 ∷ digits.digits 16 false c) hexadecimal) is (λ kept. hex_open t spot c (digits.digits 16 false c) x d kept)
    from_hexadecimal d (inr is) = go (choice (38 ∷ 35 ∷ 120 ∷ (digits.digits 16 false c ++ 59 ∷ [])) nothing) is (λ kept. hex_closed t spot c (digits.digits 16 false c) x d)

    by_kind : IsDecimalChoice (best_number c) e ⊎ IsHexadecimalChoice c e → Refers t spot (c ∷ []) e.bytes x
    by_kind (inl d) = let s = shortest c d.number d.number_is in from_decimal d.number s.gives d.choice_is
    by_kind (inr d) = let s = shorter c d.in_range in from_hexadecimal s.gives d.choice_is

pub number_fits : (t : List Entry) (spot : Spot) (c : ℕ) (e : Choice) → IsIn e (by_decimal (best_number c) ++ by_hexadecimal c) → Fits t spot e.to
number_fits t spot c e i = by_kind (number_choice_is c e i)
  where
    by_place : (a b : Choice) → Fits t spot a.to → Fits t spot b.to → (e ≡ a) ⊎ (e ≡ b) → Fits t spot e.to
    by_place a b f g (inl is) = subst (λ z. Fits t spot z.to) (sym is) f
    by_place a b f g (inr is) = subst (λ z. Fits t spot z.to) (sym is) g

    by_kind : IsDecimalChoice (best_number c) e ⊎ IsHexadecimalChoice c e → Fits t spot e.to
    by_kind (inl d) = by_place (choice (38 ∷ 35 ∷ digits.decimal d.number) decimal) (choice (38 ∷ 35 ∷ (digits.decimal d.number ++ 59 ∷ [])) nothing) tt tt d.choice_is
    by_kind (inr d) = by_place (choice (38 ∷ 35 ∷ 120 ∷ digits.digits 16 false c) hexadecimal) (choice (38 ∷ 35 ∷ 120 ∷ (digits.digits 16 false c ++ 59 ∷ [])) nothing) tt tt d.choice_is

-- what a found number is made of
pub record IsNumeric (before base : ℕ) (ds rest : List ℕ) (r : Reference) : Type 0 where
  pub some : is_null ds ≡ false
  pub points : r.points ≡ point_of (value_of base ds) ∷ []
  pub len : r.len ≡ before + length ds + cond (head_is is_semicolon rest) 1 0

numeric_is : (before base : ℕ) (ds rest : List ℕ) (r : Reference) → numeric before base ds rest ≡ Some r → IsNumeric before base ds rest r
numeric_is before base [] rest r h = absurd (cc)
numeric_is before base (d ∷ ds) rest r h = let i : record { points = point_of (value_of base (d ∷ ds)) ∷ []; len = before + length (d ∷ ds) + cond (head_is is_semicolon rest) 1 0 } ≡ r = cc in
    record { some = refl; points = sym (ap (λ z. z.points) i); len = sym (ap (λ z. z.len) i) }

-- the two kinds of numbers
pub record NumberAt (before base : ℕ) (pre inner : List ℕ) (r : Reference) : Type 0 where
  pub digits_are : List ℕ
  pub rest : List ℕ
  pub cut : inner ≡ pre ++ (digits_are ++ rest)
  pub all : all_pass (is_digit_of base) digits_are ≡ true
  pub ends : head_is (is_digit_of base) rest ≡ false
  pub numeric_is : IsNumeric before base digits_are rest r

pub hash_is : (s : List ℕ) (r : Reference) → references.hash s ≡ Some r → NumberAt 2 10 [] s r ⊎ ((d : ℕ) × NumberAt 3 16 (d ∷ []) s r)
hash_is [] r h = absurd (cc)
hash_is (c ∷ s) r h = by_x (120 == c || 88 == c) h
  where
    by_x : (b : Bool) → cond b (references.hexadecimal s) (decimal_number (c ∷ s)) ≡ Some r → NumberAt 2 10 [] (c ∷ s) r ⊎ ((d : ℕ) × NumberAt 3 16 (d ∷ []) (c ∷ s) r)
    by_x true k = let f = front_after (is_digit_of 16) s in inr (c, record { digits_are = front (is_digit_of 16) s; rest = rest_after (is_digit_of 16) s; cut = ap (λ w. c ∷ w) (sym f.0); all = front_passes (is_digit_of 16) s; ends = f.1; numeric_is = numeric_is 3 16 (front (is_digit_of 16) s) (rest_after (is_digit_of 16) s) r k })
    by_x false k = let f = front_after (is_digit_of 10) (c ∷ s) in inl (record { digits_are = front (is_digit_of 10) (c ∷ s); rest = rest_after (is_digit_of 10) (c ∷ s); cut = sym f.0; all = front_passes (is_digit_of 10) (c ∷ s); ends = f.1; numeric_is = numeric_is 2 10 (front (is_digit_of 10) (c ∷ s)) (rest_after (is_digit_of 10) (c ∷ s)) r k })

-- a number stands for one point
pub hash_one : (s : List ℕ) (r : Reference) → references.hash s ≡ Some r → (n : ℕ) × (r.points ≡ n ∷ [])
hash_one s r h = by_kind (hash_is s r h)
  where
    by_kind : NumberAt 2 10 [] s r ⊎ ((d : ℕ) × NumberAt 3 16 (d ∷ []) s r) → (n : ℕ) × (r.points ≡ n ∷ [])
    by_kind (inl n) = (point_of (value_of 10 n.digits_are), n.numeric_is.points)
    by_kind (inr (d, n)) = (point_of (value_of 16 n.digits_are), n.numeric_is.points)

pub record NumberFor (t : List Entry) (spot : Spot) (c : ℕ) (piece x : List ℕ) : Type 0 where
  pub choice_for : Choice
  pub among : IsIn choice_for (by_decimal (best_number c) ++ by_hexadecimal c)
  pub kept : keeps t spot choice_for.to x ≡ true
  pub short : length choice_for.bytes ≤ length piece

one_point : (c d : ℕ) → c ∷ [] ≡ d ∷ [] → d ≡ c
one_point c d h = cc

-- digits that were read give the code point
pub read_gives : (before base c : ℕ) (pre inner : List ℕ) (n : ℕ) → (m : NumberAt before base pre inner (record { points = c ∷ []; len = n })) → Gives base m.digits_are c
read_gives before base c pre inner n m = record { some = m.numeric_is.some; digits = m.all; value = one_point c (point_of (value_of base m.digits_are)) m.numeric_is.points }

-- how a number ends: with its ';', or before what follows
pub data EndsBy (length_without : ℕ) (base : ℕ) (piece x : List ℕ) : Type 0 where
  closed : length piece ≡ length_without + 1 → EndsBy length_without base piece x
  plain : length piece ≡ length_without → head_is (is_digit_of base) x ≡ false → head_is is_semicolon x ≡ false → EndsBy length_without base piece x

ends_by : (before base : ℕ) (front_bytes ds rest piece x : List ℕ) → length front_bytes ≡ before → piece ++ x ≡ front_bytes ++ (ds ++ rest) → length piece ≡ before + length ds + cond (head_is is_semicolon rest) 1 0 → head_is (is_digit_of base) rest ≡ false → EndsBy (before + length ds) base piece x
ends_by before base front_bytes ds rest piece x b cut len h = by_test (head_is is_semicolon rest) refl len
  where
    by_test : (e : Bool) → head_is is_semicolon rest ≡ e → length piece ≡ before + length ds + cond e 1 0 → EndsBy (before + length ds) base piece x
    by_test true e l = closed l
    by_test false e l =
        let both = same_length piece (front_bytes ++ ds) x rest (omega (arith, length-append front_bytes ds)) (cut ∙ sym (append_assoc front_bytes ds rest)) in
        plain (omega arith) (subst (λ w. head_is (is_digit_of base) w ≡ false) (sym both.1) h) (subst (λ w. head_is is_semicolon w ≡ false) (sym both.1) e)

keeps_either : (p q : ℕ → Bool) (x : List ℕ) → head_is p x ≡ false → head_is q x ≡ false → not (head_is (λ c. p c || q c) x) ≡ true
keeps_either p q [] h k = refl
keeps_either p q (c ∷ x) h k = rw (h, k) refl

-- the choice of the best number, where it is no longer
decimal_for : (t : List Entry) (spot : Spot) (c k l base : ℕ) (piece x : List ℕ) → best_number c ≡ Some k → length (digits.decimal k) + 2 ≤ l → (head_is (is_digit_of base) x ≡ false → head_is (is_digit_of 10) x ≡ false) → EndsBy l base piece x → NumberFor t spot c piece x
decimal_for t spot c k l base piece x b s d (closed e) = record {
  choice_for = choice (38 ∷ 35 ∷ (digits.decimal k ++ 59 ∷ [])) nothing;
  among = in_left (choice (38 ∷ 35 ∷ (digits.decimal k ++ 59 ∷ [])) nothing) (by_decimal (best_number c)) (by_hexadecimal c) (subst (λ o. IsIn (choice (38 ∷ 35 ∷ (digits.decimal k ++ 59 ∷ [])) nothing) (by_decimal o)) (sym b) (later (choice (38 ∷ 35 ∷ digits.decimal k) decimal) (choice (38 ∷ 35 ∷ (digits.decimal k ++ 59 ∷ [])) nothing ∷ []) (first [])));
  kept = refl;
  short = omega (arith, length-append (digits.decimal k) (59 ∷ []));
}
decimal_for t spot c k l base piece x b s d (plain e h i) = record {
  choice_for = choice (38 ∷ 35 ∷ digits.decimal k) decimal;
  among = in_left (choice (38 ∷ 35 ∷ digits.decimal k) decimal) (by_decimal (best_number c)) (by_hexadecimal c) (subst (λ o. IsIn (choice (38 ∷ 35 ∷ digits.decimal k) decimal) (by_decimal o)) (sym b) (first (choice (38 ∷ 35 ∷ (digits.decimal k ++ 59 ∷ [])) nothing ∷ [])));
  kept = keeps_either is_digit is_semicolon x (d h) i;
  short = omega arith;
}

-- the choice of the hexadecimal number, in its range
hex_for : (t : List Entry) (spot : Spot) (c l : ℕ) (piece x : List ℕ) → is_shorter_in_hexadecimal c ≡ true → length (digits.digits 16 false c) + 3 ≤ l → EndsBy l 16 piece x → NumberFor t spot c piece x
hex_for t spot c l piece x in_range s e = by_end e
  where
    here : by_hexadecimal c ≡ choice (38 ∷ 35 ∷ 120 ∷ digits.digits 16 false c) hexadecimal ∷ choice (38 ∷ 35 ∷ 120 ∷ (digits.digits 16 false c ++ 59 ∷ [])) nothing ∷ []
    here = rw in_range refl

    inside : (k : Choice) → IsIn k (choice (38 ∷ 35 ∷ 120 ∷ digits.digits 16 false c) hexadecimal ∷ choice (38 ∷ 35 ∷ 120 ∷ (digits.digits 16 false c ++ 59 ∷ [])) nothing ∷ []) → IsIn k (by_decimal (best_number c) ++ by_hexadecimal c)
    inside k i = in_right k (by_decimal (best_number c)) (by_hexadecimal c) (subst (λ ks. IsIn k ks) (sym here) i)

    by_end : EndsBy l 16 piece x → NumberFor t spot c piece x
    by_end (closed e') = record {
      choice_for = choice (38 ∷ 35 ∷ 120 ∷ (digits.digits 16 false c ++ 59 ∷ [])) nothing;
      among = inside (choice (38 ∷ 35 ∷ 120 ∷ (digits.digits 16 false c ++ 59 ∷ [])) nothing) (later _ _ (first []));
      kept = refl;
      short = omega (arith, length-append (digits.digits 16 false c) (59 ∷ []));
    }
    by_end (plain e' h i) = record {
      choice_for = choice (38 ∷ 35 ∷ 120 ∷ digits.digits 16 false c) hexadecimal;
      among = inside (choice (38 ∷ 35 ∷ 120 ∷ digits.digits 16 false c) hexadecimal) (first _);
      kept = keeps_either is_hex is_semicolon x h i;
      short = omega arith;
    }

digit_hex : (x : List ℕ) → head_is (is_digit_of 16) x ≡ false → head_is (is_digit_of 10) x ≡ false
digit_hex [] h = refl
digit_hex (c ∷ x) h = ten_hex c h

-- each reference by number has a choice that is no longer
pub number_for : (t : List Entry) (spot : Spot) (c : ℕ) (piece x : List ℕ) → IsNumber (c ∷ []) piece x → NumberFor t spot c piece x
number_for t spot c piece x n = by_kind (hash_is n.inner (record { points = c ∷ []; len = length piece }) n.read)
  where
    by_range : (d : ℕ) (ds : List ℕ) (b : Bool) → is_shorter_in_hexadecimal c ≡ b → Gives 16 ds c → EndsBy (3 + length ds) 16 piece x → NumberFor t spot c piece x
    by_range d ds true h g e =
        let s = shorter c h in
        hex_for t spot c (3 + length ds) piece x h (omega (arith, s.shortest d ds false g, length-append (digits.digits 16 false c) [], length-append ds [])) e
    by_range d ds false h g e =
        let k = best_least (value_of 16 ds) c g.value in
        let s = shortest c k.best k.is in
        decimal_for t spot c k.best (3 + length ds) 16 piece x k.is (omega (arith, s.hexadecimals h d ds false g, length-append (digits.decimal k.best) [], length-append ds [])) (digit_hex x) e

    by_kind : NumberAt 2 10 [] n.inner (record { points = c ∷ []; len = length piece }) ⊎ ((d : ℕ) × NumberAt 3 16 (d ∷ []) n.inner (record { points = c ∷ []; len = length piece })) → NumberFor t spot c piece x
    by_kind (inl m) =
        let g = read_gives 2 10 c [] n.inner (length piece) m in
        let k = best_least (value_of 10 m.digits_are) c g.value in
        let s = shortest c k.best k.is in
        let e = ends_by 2 10 (38 ∷ 35 ∷ []) m.digits_are m.rest piece x refl (n.cut ∙ ap (λ w. 38 ∷ 35 ∷ w) m.cut) m.numeric_is.len m.ends in
        decimal_for t spot c k.best (2 + length m.digits_are) 10 piece x k.is (omega (arith, s.decimals m.digits_are false g, length-append (digits.decimal k.best) [], length-append m.digits_are [])) (λ h. h) e
    by_kind (inr (d, m)) =
        let g = read_gives 3 16 c (d ∷ []) n.inner (length piece) m in
        by_range d m.digits_are (is_shorter_in_hexadecimal c) refl g (ends_by 3 16 (38 ∷ 35 ∷ d ∷ []) m.digits_are m.rest piece x refl (n.cut ∙ ap (λ w. 38 ∷ 35 ∷ w) m.cut) m.numeric_is.len m.ends)
