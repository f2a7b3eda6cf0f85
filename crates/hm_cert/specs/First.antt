-- The price at the start of a line.
use Rattle.std.specs.Prelude.{ℕ, ◌≡◌, ◌<◌, List, [], ◌∷◌, Option, Some, None, option_map, length}
use Rattle.hm_cert.specs.Layout.{told}
use Rattle.hm_cert.specs.Reading.{pieces, word_price}
use Rattle.hm_cert.specs.declared.lines.FirstPrice.{FirstPrice}

-- the first word of a line, by what follows it
pub record IsFirstWord (line word more : List ℕ) : Type 0 where
  pub cut : pieces 32 line ≡ word ∷ pieces 32 more
  pub shorter : length more < length line

-- the price whose text the first word is, and what follows the word where it isn't the last
abbrev pub IsPriceBefore : List ℕ → ℕ → Option (List ℕ) → Type 0
IsPriceBefore line price None = (pieces 32 line ≡ line ∷ []) × (word_price line ≡ Some (told price))
IsPriceBefore line price (Some more) = (word : List ℕ) × (IsFirstWord line word more × (word_price word ≡ Some (told price)))

abbrev pub IsFirst : List ℕ → FirstPrice → Type 0
IsFirst line first = IsPriceBefore line first.price (option_map (λ more. more.now) first.more)

-- the first word of a line is no price
abbrev pub IsNoFirst : List ℕ → Type 0
IsNoFirst line = (word : List ℕ) × ((words : List (List ℕ)) × ((pieces 32 line ≡ word ∷ words) × (word_price word ≡ None)))
