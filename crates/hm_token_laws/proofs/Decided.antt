-- A reference is decided by the bytes before the first one that can't go on.
use Rattle.std.proofs.Common.{◌≡◌, ℕ, ◌+◌, ◌<◌, ◌≤◌, ◌⊎◌, Bool, true, false, cond, not, ◌&&◌, ◌||◌, ◌==◌, List, [], ◌∷◌, ◌++◌, length, Option, Some, None, option_map, refl, inl, inr, ap, ap₂, ◌∙◌, arith}
use Rattle.std.proofs.lemmas.Bool.{cases_lt}
use Rattle.hm_base.specs.Bytes.{front, rest_after, head_is, is_null, is_alnum, is_letter, is_digit_of}
use Rattle.hm_refs.specs.Names.{Entry, points_of, is_name, is_front, Found, or_else, found_by, found_here, found, longest, is_closed}
use Rattle.hm_refs.specs.Numbers.{point_of}
use Rattle.hm_refs.specs.References.{value_of, is_semicolon, numeric, hash, blocks, is_blocked, named, reference_by, reference}
use Rattle.hm_refs.specs.Tables.{IsTable}
use Rattle.hm_refs.proofs.Found.{here_none, found_none, child_is, null_append, no_empty_name}
use Rattle.hm_token_laws.specs.Decided.{goes_on, ReferencesAreDecided}
use Rattle.hm_token_laws.proofs.Bools.{or_parts, turned}

-- the tests that a byte that can't go on fails
record Stops (value : Bool) (d : ℕ) : Type 0 where
  no_alnum : is_alnum d ≡ false
  no_semicolon : (d == 59) ≡ false
  no_hash : (d == 35) ≡ false
  no_equals : value && d == 61 ≡ false

stops : (value : Bool) (d : ℕ) → goes_on value d ≡ false → Stops value d
unfolding goes_on
stops value d h =
    let one = or_parts (is_alnum d) (d == 59 || (d == 35 || (value && d == 61))) h in
    let two = or_parts (d == 59) (d == 35 || (value && d == 61)) one.1 in
    let three = or_parts (d == 35) (value && d == 61) two.1 in
    record { no_alnum = one.0; no_semicolon = two.0; no_hash = three.0; no_equals = three.1 }

-- ---- numbers

front_stops : (p : ℕ → Bool) (s : List ℕ) (d : ℕ) (y : List ℕ) → p d ≡ false → front p (s ++ d ∷ y) ≡ front p s
front_stops p [] d y h = rw h refl
front_stops p (c ∷ s) d y h = ap (λ x. cond (p c) (c ∷ x) []) (front_stops p s d y h)

after_stops : (p : ℕ → Bool) (s : List ℕ) (d : ℕ) (y : List ℕ) → p d ≡ false → rest_after p (s ++ d ∷ y) ≡ rest_after p s ++ d ∷ y
after_stops p [] d y h = rw h refl
after_stops p (c ∷ s) d y h = elim (p c) as (λ b. cond b (rest_after p (s ++ d ∷ y)) (c ∷ (s ++ d ∷ y)) ≡ cond b (rest_after p s) (c ∷ s) ++ d ∷ y) [ true ↦ after_stops p s d y h | false ↦ refl ]

head_stops : (p : ℕ → Bool) (s : List ℕ) (d : ℕ) (y : List ℕ) → p d ≡ false → head_is p (s ++ d ∷ y) ≡ head_is p s
head_stops p [] d y h = h
head_stops p (c ∷ s) d y h = refl

numeric_alike : (before base : ℕ) (ds r x : List ℕ) → head_is is_semicolon x ≡ head_is is_semicolon r → numeric before base ds x ≡ numeric before base ds r
numeric_alike before base [] r x h = refl
numeric_alike before base (c ∷ ds) r x h = ap (λ b. Some (record { points = point_of (value_of base (c ∷ ds)) ∷ []; len = before + length (c ∷ ds) + cond b 1 0 })) h

numeric_stops : (before base : ℕ) (s : List ℕ) (d : ℕ) (y : List ℕ) → is_digit_of base d ≡ false → (d == 59) ≡ false
    → numeric before base (front (is_digit_of base) (s ++ d ∷ y)) (rest_after (is_digit_of base) (s ++ d ∷ y)) ≡ numeric before base (front (is_digit_of base) s) (rest_after (is_digit_of base) s)
numeric_stops before base s d y h i =
    rw (front_stops (is_digit_of base) s d y h, after_stops (is_digit_of base) s d y h)
    (numeric_alike before base (front (is_digit_of base) s) (rest_after (is_digit_of base) s) (rest_after (is_digit_of base) s ++ d ∷ y) (head_stops is_semicolon (rest_after (is_digit_of base) s) d y (turned d 59 i)))

no_decimal : (d : ℕ) → is_alnum d ≡ false → is_digit_of 10 d ≡ false
unfolding is_alnum
no_decimal d a = (or_parts (is_letter d) (is_digit_of 10 d) a).1

no_letter : (d : ℕ) → is_alnum d ≡ false → is_letter d ≡ false
unfolding is_alnum
no_letter d a = (or_parts (is_letter d) (is_digit_of 10 d) a).0

below_digits : (d : ℕ) → d < 48 → is_digit_of 16 d ≡ false
unfolding is_digit_of
below_digits d h = grind arith

below_capitals : (d : ℕ) → 58 ≤ d → d < 65 → is_digit_of 16 d ≡ false
unfolding is_digit_of
below_capitals d g h = grind arith

below_small : (d : ℕ) → 91 ≤ d → d < 97 → is_digit_of 16 d ≡ false
unfolding is_digit_of
below_small d g h = grind arith

above_small : (d : ℕ) → 123 ≤ d → is_digit_of 16 d ≡ false
unfolding is_digit_of
above_small d g = grind arith

a_digit : (d : ℕ) → 48 ≤ d → d < 58 → is_digit_of 10 d ≡ false → ⊥
unfolding is_digit_of
a_digit d g h a = grind arith

a_capital : (d : ℕ) → 65 ≤ d → d < 91 → is_letter d ≡ false → ⊥
unfolding is_letter
a_capital d g h a = grind arith

a_small : (d : ℕ) → 97 ≤ d → d < 123 → is_letter d ≡ false → ⊥
unfolding is_letter
a_small d g h a = grind arith

neither : (d : ℕ) → is_letter d ≡ false → is_digit_of 10 d ≡ false → is_digit_of 16 d ≡ false
neither d l a = elim (cases_lt d 48) [
  | inl h ↦ below_digits d h
  | inr h1 ↦ elim (cases_lt d 58) [
    | inl h ↦ absurd (a_digit d h1 h a)
    | inr h2 ↦
        elim (cases_lt d 65) [
          | inl h ↦ below_capitals d h2 h
          | inr h3 ↦ elim (cases_lt d 91) [
            | inl h ↦ absurd (a_capital d h3 h l)
            | inr h4 ↦
                elim (cases_lt d 97) [ inl h ↦ below_small d h4 h | inr h5 ↦ elim (cases_lt d 123) [ inl h ↦ absurd (a_small d h5 h l) | inr h6 ↦ above_small d h6 ] ]
          ]
        ]
  ]
]

no_hexadecimal : (d : ℕ) → is_alnum d ≡ false → is_digit_of 16 d ≡ false
no_hexadecimal d a = neither d (no_letter d a) (no_decimal d a)

no_x : (d : ℕ) → is_alnum d ≡ false → (120 == d || 88 == d) ≡ false
unfolding is_alnum is_letter
no_x d h = grind arith

hash_stops : (s : List ℕ) (d : ℕ) (y : List ℕ) → is_alnum d ≡ false → (d == 59) ≡ false → hash (s ++ d ∷ y) ≡ hash s
hash_stops [] d y a h = rw (no_x d a, no_decimal d a) refl
hash_stops (c ∷ s) d y a h = ap₂ (λ x z. cond (120 == c || 88 == c) x z) (numeric_stops 3 16 s d y (no_hexadecimal d a) h) (numeric_stops 2 10 (c ∷ s) d y (no_decimal d a) h)

-- ---- names

with_more : List ℕ → Found → Found
with_more y f = record { name = f.name; points = f.points; rest = f.rest ++ y }

here_longer : (t : List Entry) (q s y : List ℕ) → found_here t q (s ++ y) ≡ option_map (with_more y) (found_here t q s)
unfolding found_here with_more
here_longer t q s y = by_points (points_of t q)
  where
    by_points : (o : Option (List ℕ)) → found_by q (s ++ y) o ≡ option_map (with_more y) (found_by q s o)
    by_points None = refl
    by_points (Some ps) = refl

no_child : (t : List Entry) → IsTable t → (q : List ℕ) (d : ℕ) → is_null q ≡ false → is_alnum d ≡ false → (d == 59) ≡ false → is_front t (q ++ d ∷ []) ≡ false
no_child t k q d some a h = by_test (is_front t (q ++ d ∷ [])) refl
  where
    clash : (is_alnum d ≡ true) ⊎ ((d ≡ 59) × (is_name t (q ++ d ∷ []) ≡ true)) → ⊥
    clash (inl e) = cc
    clash (inr (e, n)) = grind arith

    by_test : (b : Bool) → is_front t (q ++ d ∷ []) ≡ b → b ≡ false
    by_test true e = absurd (clash (child_is t k q d some e))
    by_test false e = refl

found_stops : (t : List Entry) → IsTable t → (q s : List ℕ) (d : ℕ) (y : List ℕ) → is_null q ≡ false → is_alnum d ≡ false → (d == 59) ≡ false
    → found t q (s ++ d ∷ y) ≡ option_map (with_more (d ∷ y)) (found t q s)
found_stops t k q [] d y some a h = rw (found_none t (q ++ d ∷ []) y (no_child t k q d some a h)) (here_longer t q [] (d ∷ y))
found_stops t k q (c ∷ s) d y some a h =
    rw (found_stops t k (q ++ c ∷ []) s d y (null_append q c) a h, here_longer t q (c ∷ s) (d ∷ y)) (either (found t (q ++ c ∷ []) s))
  where
    either : (o : Option Found) → or_else (option_map (with_more (d ∷ y)) o) (option_map (with_more (d ∷ y)) (found_here t q (c ∷ s))) ≡ option_map (with_more (d ∷ y)) (or_else o (found_here t q (c ∷ s)))
    either None = refl
    either (Some f) = refl

longest_stops : (t : List Entry) → IsTable t → (s : List ℕ) (d : ℕ) (y : List ℕ) → is_alnum d ≡ false → (d == 59) ≡ false → longest t (38 ∷ (s ++ d ∷ y)) ≡ option_map (with_more (d ∷ y)) (longest t (38 ∷ s))
longest_stops t k s d y a h =
    rw (here_none t [] (38 ∷ (s ++ d ∷ y)) (no_empty_name t k), here_none t [] (38 ∷ s) (no_empty_name t k), found_stops t k (38 ∷ []) s d y refl a h) (either (found t (38 ∷ []) s))
  where
    either : (o : Option Found) → or_else (option_map (with_more (d ∷ y)) o) None ≡ option_map (with_more (d ∷ y)) (or_else o None)
    either None = refl
    either (Some f) = refl

blocked_alike : (value : Bool) (f : Found) (d : ℕ) (y : List ℕ) → Stops value d → is_blocked value (with_more (d ∷ y) f) ≡ is_blocked value f
unfolding is_blocked with_more
blocked_alike false f d y k = refl
blocked_alike true f d y k = ap (λ b. not (is_closed f.name) && b) (head_stops blocks f.rest d y (no_block d k.no_equals k.no_alnum))
  where
    no_block : (d : ℕ) → (d == 61) ≡ false → is_alnum d ≡ false → blocks d ≡ false
    no_block d e a = rw (turned d 61 e, a) refl

named_stops : (value : Bool) (o : Option Found) (d : ℕ) (y : List ℕ) → Stops value d → named value (option_map (with_more (d ∷ y)) o) ≡ named value o
unfolding with_more
named_stops value None d y k = refl
named_stops value (Some f) d y k = ap (λ b. cond b None (Some (record { points = f.points; len = length f.name }))) (blocked_alike value f d y k)

pub references_are_decided : ReferencesAreDecided
unfolding reference
references_are_decided t value s d y k h = by_shape s
  where
    no : Stops value d
    no = stops value d h

    names : (s : List ℕ) → named value (longest t (38 ∷ (s ++ d ∷ y))) ≡ named value (longest t (38 ∷ s))
    names s = ap (named value) (longest_stops t k s d y no.no_alnum no.no_semicolon) ∙ named_stops value (longest t (38 ∷ s)) d y no

    by_shape : (s : List ℕ) → reference t value (38 ∷ (s ++ d ∷ y)) ≡ reference t value (38 ∷ s)
    by_shape [] = rw (turned d 35 no.no_hash) (names [])
    by_shape (c ∷ s) = by_test (35 == c)
      where
        by_test : (b : Bool) → reference_by t value (cond b (Some (s ++ d ∷ y)) None) (38 ∷ c ∷ (s ++ d ∷ y)) ≡ reference_by t value (cond b (Some s) None) (38 ∷ c ∷ s)
        by_test true = hash_stops s d y no.no_alnum no.no_semicolon
        by_test false = names (c ∷ s)
