-- What the parts of the reader answer.
use Rattle.std.specs.Prelude.{ℕ, ◌≡◌, ◌<◌, ◌≤◌, ◌^◌, List, Option, Some, None, length, take, slice_index}
use Rattle.std.specs.Str.Parse.{AllDigits, digits_value}

-- the number below 2^63 that digits write
abbrev pub IsNumber : List ℕ → Option ℕ → Type 0
IsNumber word (Some number) = AllDigits 10 word × (digits_value 10 word ≡ number) × (number < 2 ^ 63)
IsNumber word None = AllDigits 10 word → 2 ^ 63 ≤ digits_value 10 word

-- as many bytes as a number below 2^63 has, and `0` at the start only if that is all
abbrev pub HasNumberForm : List ℕ → Type 0
HasNumberForm word = (0 < length word) × (length word ≤ 19) × (slice_index word 0 ≡ 48 → length word ≡ 1)

-- the number that the bytes up to a place write, which are digits
pub record IsUpTo (word : List ℕ) (i number : ℕ) : Type 0 where
  pub digits : AllDigits 10 (take i word)
  pub value : number ≡ digits_value 10 (take i word)
