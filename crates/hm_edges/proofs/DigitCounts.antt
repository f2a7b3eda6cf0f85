-- How many digits a number has.
use Rattle.std.proofs.Common.{◌≡◌, ◌∙◌, ℕ, zero, suc, ◌+◌, ◌*◌, ◌/◌, ◌%◌, ◌<◌, ◌≤◌, ◌==◌, Bool, true, false, cond, List, [], ◌∷◌, length, refl, arith}
use Rattle.std.proofs.lemmas.Nat.{mul-le}
use Rattle.std.proofs.Math.Nat.{div-mul-le_self, div-le_self}
use Rattle.std.specs.Fmt.{digits, digits_onto, digit_glyph}

-- how many digits n has in the base, at most k
abbrev pub counted : ℕ → ℕ → ℕ → ℕ
counted zero base n = 0
counted (suc k) base n = cond (n / base == 0) 1 (suc (counted k base (n / base)))

onto_counted : (k base n : ℕ) (acc : List ℕ) → length (digits_onto k base false n acc) ≡ counted k base n + length acc
onto_counted zero base n acc = omega arith
onto_counted (suc k) base n acc = by_test (n / base == 0) (onto_counted k base (n / base) (digit_glyph false (n % base) ∷ acc))
  where
    by_test : (b : Bool) → length (digits_onto k base false (n / base) (digit_glyph false (n % base) ∷ acc)) ≡ counted k base (n / base) + length (digit_glyph false (n % base) ∷ acc)
        → length (cond b (digit_glyph false (n % base) ∷ acc) (digits_onto k base false (n / base) (digit_glyph false (n % base) ∷ acc))) ≡ cond b 1 (suc (counted k base (n / base))) + length acc
    by_test true h = omega arith
    by_test false h = omega arith

-- the digits of what is left
abbrev pub left_over : ℕ → ℕ → ℕ → ℕ
left_over k base left = cond (left == 0) 0 (counted k base left)

-- 2 to the k
abbrev pub room : ℕ → ℕ
room zero = 1
room (suc k) = 2 * room k

-- `count` digits are counted, and `left` is what remains of the number
pub record Counting (base number count left : ℕ) : Type 0 where
  pub fuel : ℕ
  pub fits : left < room fuel
  pub whole : length (digits base false number) ≡ count + left_over fuel base left
  pub bounded : count + fuel ≡ 64

halves : (n b : ℕ) → 2 ≤ b → n / b * 2 ≤ n
halves n b l = let h = mul-le (n / b) 2 (n / b) b (omega arith) l in let k = div-mul-le_self n b in omega arith

pub less_left : (n b : ℕ) → 2 ≤ b → (n ≡ 0 → ⊥) → n / b < n
less_left n b l some = let h = halves n b l in omega arith

first_counted : (base n k : ℕ) → counted (suc k) base n ≡ 1 + left_over k base (n / base)
first_counted base n k = by_test (n / base == 0)
  where
    by_test : (b : Bool) → cond b 1 (suc (counted k base (n / base))) ≡ 1 + cond b 0 (counted k base (n / base))
    by_test true = refl
    by_test false = omega arith

pub counting_begins : (base number : ℕ) → number < 4294967296 → Counting base number 1 (number / base)
unfolding digits
counting_begins base number l = record {
  fuel = 63;
  fits = let h = div-le_self number base in omega arith;
  whole = onto_counted 64 base number [] ∙ (let h = first_counted base number 63 in omega arith);
  bounded = refl;
}

pub counting_goes_on : (base number count left : ℕ) → 2 ≤ base → (left ≡ 0 → ⊥) → Counting base number count left → Counting base number (count + 1) (left / base)
counting_goes_on base number count left low some c = by_fuel c.fuel c.fits c.whole c.bounded
  where
    is_over : (k : ℕ) → left_over k base left ≡ counted k base left
    is_over k = by_test (left == 0) refl
      where
        by_test : (b : Bool) → (left == 0) ≡ b → cond b 0 (counted k base left) ≡ counted k base left
        by_test true e = absurd (some (grind arith))
        by_test false e = refl

    by_fuel : (k : ℕ) → left < room k → length (digits base false number) ≡ count + left_over k base left → count + k ≡ 64 → Counting base number (count + 1) (left / base)
    by_fuel zero f w b = absurd (some (omega arith))
    by_fuel (suc k) f w b = record {
      fuel = k;
      fits = let h = halves left base low in omega arith;
      whole = let h = is_over (suc k) in let g = first_counted base left k in omega arith;
      bounded = omega arith;
    }

pub counting_ends : (base number count left : ℕ) → left ≡ 0 → Counting base number count left → (count ≡ length (digits base false number)) × (count ≤ 64)
counting_ends base number count left e c = (is_whole, omega (arith, c.bounded))
  where
    is_whole : count ≡ length (digits base false number)
    is_whole = let h : left_over c.fuel base left ≡ 0 = rw e refl in omega (arith, c.whole)
