-- Numbers that differ in their last two digits.
use Rattle.std.specs.Prelude.{ℕ, ◌≡◌, ◌+◌, ◌*◌, ◌^◌, ◌<◌, ◌≤◌, List, [], ◌∷◌, length, take, slice_index}
use Rattle.std.specs.Fmt.{decimal}

-- the digits of a number, which has four to eight
pub record IsLeading (digits : List ℕ) (number : ℕ) : Type 0 where
  pub some : 4 ≤ length digits
  pub few : length digits ≤ 8
  pub positive : 0 < number
  pub small : number < 10 ^ 10
  pub written : digits ≡ decimal number

-- the four bytes of a text from a place on
abbrev pub HasFour : List ℕ → ℕ → List ℕ → Type 0
HasFour text at bytes = bytes ≡ slice_index text at ∷ slice_index text (at + 1) ∷ slice_index text (at + 2) ∷ slice_index text (at + 3) ∷ []

-- two bytes are the digits of a number
pub record WritesPair (tens ones number : ℕ) : Type 0 where
  pub high : ℕ
  pub low : ℕ
  pub high_digit : high ≤ 9
  pub low_digit : low ≤ 9
  pub tens_are : tens ≡ 48 + high
  pub ones_are : ones ≡ 48 + low
  pub value : number ≡ high * 10 + low

-- a text begins with `len` bytes that write a number
pub record BeginsWith (text : List ℕ) (len number : ℕ) : Type 0 where
  pub inside : len ≤ length text
  pub few : len ≤ 18
  pub small : number < 2 ^ 63
  pub written : take len text ≡ decimal number
