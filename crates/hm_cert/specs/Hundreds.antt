-- The digits of hundreds that are kept.
use Rattle.std.specs.Prelude.{ℕ, ◌≡◌, ◌+◌, ◌*◌, ◌/◌, ◌^◌, ◌<◌, ◌≤◌, List, [], ◌∷◌, ◌++◌, length, take, reverse}
use Rattle.std.specs.Fmt.{decimal}
use Rattle.hm_cert.specs.Certificate.{Row, price_text}
use Rattle.hm_cert.specs.Layout.{told}

-- a number has the hundreds of a base
pub record HasHundreds (base number : ℕ) : Type 0 where
  pub low : base ≤ number
  pub high : number < base + 100

-- a text begins with a space and a number written from its end, in `len` bytes; the number ends in two zeros, with
-- other digits before them
pub record IsKept (base : ℕ) (text : List ℕ) (len : ℕ) : Type 0 where
  pub some : 100 ≤ base
  pub small : base < 10 ^ 9
  pub even : base ≡ base / 100 * 100
  pub few : len ≤ 16
  pub written : take len text ≡ 32 ∷ 48 ∷ 48 ∷ reverse (decimal (base / 100))

-- a line begins with a space and a price written from its end, in `len` bytes
pub record IsPut (line : List ℕ) (price len : ℕ) : Type 0 where
  pub few : len ≤ 16
  pub within : len ≤ length line
  pub written : take len line ≡ 32 ∷ reverse (price_text (told price))

-- prices, each with a space after it
abbrev pub ahead : Row → List ℕ
ahead [] = []
ahead (price ∷ row) = price_text price ++ 32 ∷ ahead row
