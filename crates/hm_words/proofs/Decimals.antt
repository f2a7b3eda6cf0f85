-- Numbers among words.
use Rattle.std.proofs.Common.{◌≡◌, ◌≤◌, ◌<◌, ◌^◌, ◌&&◌, ℕ, Bool, true, false, true≢false, cond, refl, sym, subst, List, [], ◌∷◌, Bor, length, Some, None, Result, Ok, Err, arith}
use Rattle.std.specs.Char.{is_ascii_digit}
use Rattle.std.specs.List.{list_all}
use Rattle.std.specs.Bool.{nat_le}
use Rattle.std.specs.Str.Parse.{ParsesUnsigned, digits_value}
use Rattle.std.proofs.lemmas.Bool.Decides.{nat_tests}
use Rattle.std.proofs.lemmas.Str.Parse.{IsDigitsTest, IsNumeralModel, numerals_by_value, parse_digits}
use Rattle.clap.specs.Walk.{Text, texts}
use Rattle.hm_base.proofs.Bytes.{both_true, first_true, second_true}
use Rattle.hm_words.specs.Words.{is_number, number_in, origin_in}
use Rattle.hm_words.specs.declared.commands.Source.TheVariants.{Number}

digit_range : (c : ℕ) → is_ascii_digit c ≡ true → (48 ≤ c) × (c ≤ 57)
digit_range c e = (grind (arith, nat_tests), grind (arith, nat_tests))

in_range : (c : ℕ) → 48 ≤ c → c ≤ 57 → is_ascii_digit c ≡ true
in_range c l h = grind (arith, nat_tests)

tells_digits : IsDigitsTest (λ ds. list_all is_ascii_digit ds ≡ true)
tells_digits = record {
  empty = refl;
  parts = λ c cs e. (digit_range c (first_true _ _ e), second_true _ _ e);
  more = λ c cs k e. both_true _ _ (in_range c k.0 k.1) e;
}

own : IsNumeralModel (λ ds. list_all is_ascii_digit ds ≡ true) (digits_value 10)
own = numerals_by_value _ tells_digits

-- what is read of a number, where it is one of 32 bits
abbrev IsReadAs : {E : Type 0} → ℕ → Result ℕ E → Type 0
IsReadAs value (Ok n) = (n ≡ value) × (value < 2 ^ 32)
IsReadAs value (Err e) = 2 ^ 32 ≤ value

number_read : {E : Type 0} (word : List ℕ) (r : Result ℕ E) → is_number word ≡ true → ParsesUnsigned 32 10 word r → IsReadAs (digits_value 10 word) r
number_read {E} [] r e h = absurd (true≢false (sym e))
number_read {E} (c ∷ s) (Ok n) e h = let k = parse_digits own {E = E} 32 (c ∷ s) (Ok n) h (first_true _ _ e) in (k.1, k.0.1)
number_read {E} (c ∷ s) (Err x) e h =
    let great : digits_value 10 (c ∷ s) < 2 ^ 32 → ⊥ = λ l. parse_digits own {E = E} 32 (c ∷ s) (Err x) h (first_true _ _ e) (omega arith, l) in
    omega (arith, great)

-- a number of more than 32 bits is above every limit of 32
pub number_too_great : {E : Type 0} (word : List ℕ) (least most : ℕ) (x : E) (r : Result ℕ E) → is_number word ≡ true → ParsesUnsigned 32 10 word r → r ≡ Err x → most < 2 ^ 32 → None ≡ number_in least most word
number_too_great word least most x r e h is high =
    let great : 2 ^ 32 ≤ digits_value 10 word = subst (IsReadAs (digits_value 10 word)) is (number_read word r e h) in
    let out : nat_le (digits_value 10 word) most ≡ false = grind (arith, nat_tests) in
    rw (e, out) (none_either (nat_le least (digits_value 10 word)) (digits_value 10 word))
  where
    none_either : (b : Bool) (n : ℕ) → None ≡ cond (b && false) (Some n) None
    none_either true n = refl
    none_either false n = refl

-- ---- the words of a page that is made of a number

pub few_names : (names : List (Bor Text)) → length names < 3 → None ≡ origin_in Number (texts names)
few_names [] h = refl
few_names (a ∷ []) h = refl
few_names (a ∷ b ∷ []) h = refl
few_names (a ∷ b ∷ c ∷ names) h = absurd (omega arith)
