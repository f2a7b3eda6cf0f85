-- The text of a certificate: its format, the rules that it is about, and a line of prices (potentials: the cost to go)
-- for each layer that is written.
use Rattle.std.specs.Prelude.{ℕ, ◌^◌, ◌<◌, Bool, true, false, List, [], ◌∷◌, ◌++◌, Option, Some, None, ⊤, codes, length, map}
use Rattle.std.specs.Fmt.{decimal}
use Rattle.std.specs.List.{join_with_byte}
use Rattle.hm_base.specs.declared.plain.SpellRules.{SpellRules}
use Rattle.hm_base.specs.declared.plain.Format.{Format}
use Rattle.hm_base.specs.declared.plain.Format.TheVariants.{Full, Compact, Sparse}

-- the prices of a layer's states, in their order; a closed one is None
abbrev pub Row : Type 0
Row = List (Option ℕ)

-- a number in decimal digits, `-` for a closed price
abbrev pub price_text : Option ℕ → List ℕ
price_text None = 45 ∷ []
price_text (Some n) = decimal n

-- prices with a space between
abbrev pub row_text : Row → List ℕ
row_text row = join_with_byte 32 (map price_text row)

-- prices, each after a space
abbrev pub more_prices : Row → List ℕ
more_prices [] = []
more_prices (price ∷ row) = 32 ∷ (price_text price ++ more_prices row)

abbrev pub row_line : Row → List ℕ
row_line row = row_text row ++ 10 ∷ []

abbrev pub row_lines : List Row → List ℕ
row_lines [] = []
row_lines (row ∷ rows) = row_line row ++ row_lines rows

abbrev pub format_text : Format → List ℕ
format_text Full = codes "html-cert 1"
format_text Compact = codes "html-cert 2"
format_text Sparse = codes "html-cert 3"

-- a word after a space, where it is set
abbrev pub flag_text : Bool → List ℕ → List ℕ
flag_text false word = []
flag_text true word = 32 ∷ word

abbrev pub rules_text : SpellRules → List ℕ
rules_text rules = codes "rules" ++ (flag_text rules.omit (codes "omit") ++ (flag_text rules.unquote (codes "unquote") ++ (flag_text rules.tight (codes "tight") ++ (flag_text rules.ascii (codes "ascii") ++ flag_text rules.frame (codes "frame")))))

abbrev pub head_lines : Format → SpellRules → List ℕ
head_lines format rules = format_text format ++ 10 ∷ (rules_text rules ++ 10 ∷ [])

abbrev pub certificate_text : Format → SpellRules → List Row → List ℕ
certificate_text format rules rows = head_lines format rules ++ row_lines rows

-- a price that can be written
abbrev pub IsPrice : Option ℕ → Type 0
IsPrice None = ⊤
IsPrice (Some n) = n < 2 ^ 63

abbrev pub ArePrices : Row → Type 0
ArePrices [] = ⊤
ArePrices (price ∷ row) = IsPrice price × ArePrices row

-- rows that can be written: each has a price, and each price can be written
abbrev pub AreRows : List Row → Type 0
AreRows [] = ⊤
AreRows (row ∷ rows) = (0 < length row) × ArePrices row × AreRows rows
