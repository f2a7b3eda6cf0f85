-- Where bytes stop being UTF-8, when more bytes follow.
use Rattle.std.proofs.Common.{◌≡◌, ℕ, ◌+◌, ◌*◌, ◌<◌, ◌≤◌, inl, inr, Bool, true, false, cond, ◌==◌, List, [], ◌∷◌, ◌++◌, length, Option, Some, None, is_some, refl, sym, ap, subst, ◌∙◌, arith, ⊎_elim}
use lib.Utf8.{encode, scalar_cases}
use Rattle.std.specs.Char.{IsScalar}
use Rattle.std.specs.Int.{is_in_range}
use Rattle.std.specs.Str.{StartsWithNoChar}
use Rattle.std.specs.Str.Lossy.{utf8_error_len, second_byte_min, second_byte_max}
use Rattle.std.proofs.str.Laws.{Shape, of1, of2, of3, of4, shape, Scalar, Follows, one, two, three}
use Rattle.std.proofs.lemmas.Bool.{eqb-true, cases_lt}
use Rattle.std.proofs.lemmas.Bool.Decides.{nat_tests}

-- ---- the front of a character is no fault

within : (lo hi c : ℕ) → lo ≤ c → c ≤ hi → is_in_range lo hi c ≡ true
within lo hi c l h = grind (arith, nat_tests)

above_least : (a b : ℕ) → 128 ≤ b → (a ≡ 224 → 160 ≤ b) → (a ≡ 240 → 144 ≤ b) → second_byte_min a ≤ b
above_least a b l three four = by (a == 224) refl (a == 240) refl
  where
    by : (x : Bool) → (a == 224) ≡ x → (y : Bool) → (a == 240) ≡ y → cond x 160 (cond y 144 128) ≤ b
    by true e y f = three (eqb-true a 224 e)
    by false e true f = four (eqb-true a 240 f)
    by false e false f = l

below_most : (a b : ℕ) → b < 192 → (a ≡ 237 → b < 160) → (a ≡ 244 → b < 144) → b ≤ second_byte_max a
below_most a b l three four = by (a == 237) refl (a == 244) refl
  where
    by : (x : Bool) → (a == 237) ≡ x → (y : Bool) → (a == 244) ≡ y → b ≤ cond x 159 (cond y 143 191)
    by true e y f = let h = three (eqb-true a 237 e) in omega arith
    by false e true f = let h = four (eqb-true a 244 f) in omega arith
    by false e false f = omega arith

one_byte : (a : ℕ) → 194 ≤ a → a < 245 → utf8_error_len (a ∷ []) ≡ None
unfolding utf8_error_len
one_byte a l h = rw (within 0xC2 0xF4 a l (omega arith)) refl

two_bytes : (a b : ℕ) → 194 ≤ a → a < 245 → second_byte_min a ≤ b → b ≤ second_byte_max a → utf8_error_len (a ∷ b ∷ []) ≡ None
unfolding utf8_error_len
two_bytes a b l h k m = rw (within 0xC2 0xF4 a l (omega arith), within (second_byte_min a) (second_byte_max a) b k m) refl

three_bytes : (a b d : ℕ) → 194 ≤ a → a < 245 → second_byte_min a ≤ b → b ≤ second_byte_max a → 128 ≤ d → d < 192 → utf8_error_len (a ∷ b ∷ d ∷ []) ≡ None
unfolding utf8_error_len
three_bytes a b d l h k m n o = rw (within 0xC2 0xF4 a l (omega arith), within (second_byte_min a) (second_byte_max a) b k m, within 0x80 0xBF d n (omega arith)) refl

-- no shorter encoding would do
past_one : (c : ℕ) → 1 < length (encode c) → 128 ≤ c
past_one c h = ⊎_elim (λ l. absurd (omega (arith, ap length (one c l)))) (λ l. l) (cases_lt c 128)

past_two : (c : ℕ) → 2 < length (encode c) → 2048 ≤ c
past_two c h = ⊎_elim (λ l. absurd (omega (arith, ap length (two c (past_one c (omega arith)) l)))) (λ l. l) (cases_lt c 2048)

past_three : (c : ℕ) → 3 < length (encode c) → 65536 ≤ c
past_three c h = ⊎_elim (λ l. absurd (omega (arith, ap length (three c (past_two c (omega arith)) l)))) (λ l. l) (cases_lt c 65536)

-- what no character begins, and is at fault, begins none with more bytes after it
clash : {A : Type 0} (o : Option A) → is_some o ≡ true → o ≡ None → ⊥
clash None h e = cc
clash (Some x) h e = cc

below_top : (c : ℕ) → Scalar c → c < 1114112
below_top c (inl h) = omega arith
below_top c (inr h) = h.1

by_two : (x y : List ℕ) (c a b : ℕ) (r : List ℕ) → IsScalar c → 194 ≤ a → a < 224 → encode c ≡ a ∷ b ∷ [] → 0 < length x → StartsWithNoChar x → is_some (utf8_error_len x) ≡ true → x ++ y ≡ a ∷ b ∷ r → ⊥
by_two [] y c a b r s l h e some none err is = omega arith
by_two (p ∷ []) y c a b r s l h e some none err is =
    let same : p ≡ a = cc in
    clash (utf8_error_len (a ∷ [])) (subst (λ n. is_some (utf8_error_len (n ∷ [])) ≡ true) same err) (one_byte a l (omega arith))
by_two (p ∷ q ∷ x) y c a b r s l h e some none err is =
    let first : p ≡ a = cc in
    let second : q ≡ b = cc in
    none c x s (rw (first, second, e) refl)

by_three : (x y : List ℕ) (c a b d : ℕ) (r : List ℕ) → IsScalar c → 224 ≤ a → a < 240 → second_byte_min a ≤ b → b ≤ second_byte_max a → encode c ≡ a ∷ b ∷ d ∷ [] → 0 < length x → StartsWithNoChar x
    → is_some (utf8_error_len x) ≡ true → x ++ y ≡ a ∷ b ∷ d ∷ r → ⊥
by_three [] y c a b d r s l h k m e some none err is = omega arith
by_three (p ∷ []) y c a b d r s l h k m e some none err is =
    let same : p ≡ a = cc in
    clash (utf8_error_len (a ∷ [])) (subst (λ n. is_some (utf8_error_len (n ∷ [])) ≡ true) same err) (one_byte a (omega arith) (omega arith))
by_three (p ∷ q ∷ []) y c a b d r s l h k m e some none err is =
    let first : p ≡ a = cc in
    let second : q ≡ b = cc in
    clash (utf8_error_len (a ∷ b ∷ [])) (rw (sym first, sym second) err) (two_bytes a b (omega arith) (omega arith) k m)
by_three (p ∷ q ∷ o ∷ x) y c a b d r s l h k m e some none err is =
    let first : p ≡ a = cc in
    let second : q ≡ b = cc in
    let third : o ≡ d = cc in
    none c x s (rw (first, second, third, e) refl)

by_four : (x y : List ℕ) (c a b d f : ℕ) (r : List ℕ) → IsScalar c → 240 ≤ a → a < 245 → second_byte_min a ≤ b → b ≤ second_byte_max a → Follows d → encode c ≡ a ∷ b ∷ d ∷ f ∷ [] → 0 < length x → StartsWithNoChar x
    → is_some (utf8_error_len x) ≡ true → x ++ y ≡ a ∷ b ∷ d ∷ f ∷ r → ⊥
by_four [] y c a b d f r s l h k m g e some none err is = omega arith
by_four (p ∷ []) y c a b d f r s l h k m g e some none err is =
    let same : p ≡ a = cc in
    clash (utf8_error_len (a ∷ [])) (subst (λ n. is_some (utf8_error_len (n ∷ [])) ≡ true) same err) (one_byte a (omega arith) (omega arith))
by_four (p ∷ q ∷ []) y c a b d f r s l h k m g e some none err is =
    let first : p ≡ a = cc in
    let second : q ≡ b = cc in
    clash (utf8_error_len (a ∷ b ∷ [])) (rw (sym first, sym second) err) (two_bytes a b (omega arith) (omega arith) k m)
by_four (p ∷ q ∷ o ∷ []) y c a b d f r s l h k m g e some none err is =
    let first : p ≡ a = cc in
    let second : q ≡ b = cc in
    let third : o ≡ d = cc in
    clash (utf8_error_len (a ∷ b ∷ d ∷ [])) (rw (sym first, sym second, sym third) err) (three_bytes a b d (omega arith) (omega arith) k m g.0 g.1)
by_four (p ∷ q ∷ o ∷ n ∷ x) y c a b d f r s l h k m g e some none err is =
    let first : p ≡ a = cc in
    let second : q ≡ b = cc in
    let third : o ≡ d = cc in
    let fourth : n ≡ f = cc in
    none c x s (rw (first, second, third, fourth, e) refl)

by_one : (x y : List ℕ) (c : ℕ) (r : List ℕ) → IsScalar c → encode c ≡ c ∷ [] → 0 < length x → StartsWithNoChar x → x ++ y ≡ c ∷ r → ⊥
by_one [] y c r s e some none is = omega arith
by_one (p ∷ x) y c r s e some none is = let first : p ≡ c = cc in none c x s (rw (first, e) refl)

pub none_follows : (x y : List ℕ) → 0 < length x → StartsWithNoChar x → is_some (utf8_error_len x) ≡ true → StartsWithNoChar (x ++ y)
none_follows x y some none err c r s is = by (scalar_cases c s) (shape c (scalar_cases c s))
  where
    at : (p : List ℕ) → encode c ≡ p → x ++ y ≡ p ++ r
    at p e = is ∙ ap (λ l. l ++ r) e

    by : Scalar c → Shape c → ⊥
    by k (of1 l e) = by_one x y c r s e some none (at _ e)
    by k (of2 a b l u f t e) = let least : 128 ≤ c = past_one c (omega (arith, ap length e)) in by_two x y c a b r s (omega (arith, f.1)) u e some none err (at _ e)
    by k (of3 a b d l u f g t e) =
        let least : 2048 ≤ c = past_two c (omega (arith, ap length e)) in
        by_three x y c a b d r s l u (above_least a b f.0 (λ q. omega (arith, g.1)) (λ q. omega arith)) (below_most a b f.1 (λ q. no_surrogate k a b d q f g t) (λ q. absurd (omega arith))) e some none err (at _ e)
      where
        no_surrogate : Scalar c → (a b d : ℕ) → a ≡ 237 → Follows b → Follows d → c + 925824 ≡ a * 4096 + b * 64 + d → b < 160
        no_surrogate (inl h) a b d q f g t = omega (arith, g.0)
        no_surrogate (inr h) a b d q f g t = absurd (omega (arith, f.1, g.1, h.0))
    by k (of4 a b d o l u f g h t e) =
        let least : 65536 ≤ c = past_three c (omega (arith, ap length e)) in
        let top : c < 1114112 = below_top c k in
        by_four x y c a b d o r s l (omega (arith, f.0)) (above_least a b f.0 (λ q. absurd (omega arith)) (λ q. omega (arith, g.1, h.1))) (below_most a b f.1 (λ q. absurd (omega arith)) (λ q. omega (arith, g.0, h.0))) g e some none err (at _ e)
