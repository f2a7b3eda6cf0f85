-- Spelled values of attributes are read as the values.
use Rattle.std.specs.Prelude.{◌≡◌, ℕ, Bool, true, false, ◌||◌, ◌==◌, List, ◌∷◌}
use Rattle.std.specs.Str.{is_utf8}
use Rattle.hm_base.specs.Bytes.{is_space, all_pass}
use Rattle.hm_refs.specs.Names.{Entry}
use Rattle.hm_refs.specs.Tables.{IsTable}
use Rattle.hm_spelling_spec.specs.Characters.{Spot, text, rcdata, foreign, unquoted, double, single, CharacterRules, SpellsPoints, SpellsText}
use Rattle.hm_scan.specs.Tags.{is_inside, is_unquoted_byte}
use Rattle.hm_scan.specs.Values.{read_value}

-- the byte ends a value: whitespace or '>' after one without quotes, else the quote
abbrev pub closes : Spot → ℕ → Bool
closes text c = false
closes rcdata c = false
closes foreign c = false
closes unquoted c = is_space c || c == 62
closes double c = c == 34
closes single c = c == 39

-- no byte of a value ends it
abbrev pub IsWithin : Spot → List ℕ → Type 0
IsWithin text b = Unit {0}
IsWithin rcdata b = Unit {0}
IsWithin foreign b = Unit {0}
IsWithin unquoted b = all_pass is_unquoted_byte b ≡ true
IsWithin double b = all_pass (is_inside 34) b ≡ true
IsWithin single b = all_pass (is_inside 39) b ≡ true

-- What spells a value before the byte that ends it holds no such byte, and is read as the value.
abbrev pub SpelledValuesAreRead : Type 0
SpelledValuesAreRead = (t : List Entry) (rules : CharacterRules) (spot : Spot) (value b : List ℕ) (d : ℕ) (y : List ℕ)
    → IsTable t → is_utf8 value ≡ true → closes spot d ≡ true → SpellsText t rules spot value b (d ∷ y) → IsWithin spot b × (read_value t b ≡ value)

-- Which closing byte it is, and what follows it, makes no difference.
abbrev pub SpelledValuesAreDecided : Type 0
SpelledValuesAreDecided = (t : List Entry) (rules : CharacterRules) (spot : Spot) (cs b : List ℕ) (d e : ℕ) (x y : List ℕ)
    → IsTable t → closes spot d ≡ true → closes spot e ≡ true → SpellsPoints t rules spot cs b (d ∷ x) → SpellsPoints t rules spot cs b (e ∷ y)
