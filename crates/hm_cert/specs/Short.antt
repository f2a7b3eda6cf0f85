-- What is found of lines of prices of few digits.
use Rattle.std.specs.Prelude.{ℕ, ◌≡◌, ◌+◌, ◌<◌, ◌≤◌, List, Option, length, take, drop, slice_range}
use Rattle.std.specs.Str.Parse.{AllDigits, digits_value}
use Rattle.hm_cert.specs.Certificate.{Row, IsPrice, ArePrices, price_text, row_line, row_text}
use Rattle.hm_cert.specs.Layout.{told}
use Rattle.hm_cert.specs.Places.{IsLineStart}

-- a text begins with `len` digits
pub record AreDigits (text : List ℕ) (len : ℕ) : Type 0 where
  pub within : len ≤ length text
  pub digits : AllDigits 10 (take len text)

-- a text begins with a price of `len` bytes, and something follows it
pub record IsShortWord (text : List ℕ) (len : ℕ) : Type 0 where
  pub inside : len < length text
  pub price : Option ℕ
  pub can : IsPrice price
  pub written : take len text ≡ price_text price

-- a text begins with the line of a row, whose line feed is at a place
pub record IsShortLine (text : List ℕ) (end : ℕ) : Type 0 where
  pub inside : end < length text
  pub row : Row
  pub some : 0 < length row
  pub prices : ArePrices row
  pub written : take (end + 1) text ≡ row_line row

-- after a place there are at most 18 digits, which write a number
pub record IsBackTo (text : List ℕ) (at number : ℕ) : Type 0 where
  pub within : at ≤ length text
  pub few : length text ≤ at + 18
  pub digits : AllDigits 10 (drop at text)
  pub value : number ≡ digits_value 10 (drop at text)

-- a text ends with the price that a number stands for, which begins at a place
pub record IsLastPrice (text : List ℕ) (at price : ℕ) : Type 0 where
  pub within : at ≤ length text
  pub can : IsPrice (told price)
  pub written : drop at text ≡ price_text (told price)

-- the line that ends at a place is that of a row, and begins at another place
pub record IsShortRow (text : List ℕ) (end : ℕ) (row : Row) (at : ℕ) : Type 0 where
  pub start : IsLineStart text end at
  pub some : 0 < length row
  pub prices : ArePrices row
  pub written : slice_range text at end ≡ row_text row
