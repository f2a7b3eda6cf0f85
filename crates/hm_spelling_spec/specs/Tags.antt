-- How values, doctypes and tags may be spelled by the written rules.
use Rattle.std.specs.Prelude.{◌≡◌, ℕ, Bool, true, false, List, [], ◌∷◌, ◌++◌}
use Rattle.hm_base.specs.Bytes.{is_null}
use Rattle.hm_base.specs.Walks.{Attribute}
use Rattle.hm_base.specs.declared.plain.SpellRules.{SpellRules}
use Rattle.hm_markup_spec.specs.Doctypes.{WritesDoctype}
use Rattle.hm_markup_spec.specs.Tags.{Quoting, bare, unquoted, double, single, IsAssigned, WritesStart}
use Rattle.hm_refs.specs.Names.{Entry}
use Rattle.hm_spelling_spec.specs.Characters as spots
use Rattle.hm_spelling_spec.specs.Characters.{CharacterRules, SpellsText}

-- the table of names, the rules that are chosen, and at which characters a reference may begin
pub record Spelling : Type 0 where
  pub table : List Entry
  pub rules : SpellRules
  pub refers : ℕ → Bool

abbrev pub character_rules : Spelling → CharacterRules
character_rules g = record { ascii = g.rules.ascii; refers = g.refers }

-- a value without quotes: only under the rule `unquote`, and not empty
pub record IsBareValue (g : Spelling) (value b after : List ℕ) : Type 0 where
  pub written : List ℕ
  pub is : IsAssigned written b
  pub allowed : g.rules.unquote ≡ true
  pub some : is_null value ≡ false
  pub spells : SpellsText g.table (character_rules g) spots.unquoted value written after

-- a value in these quotes
pub record IsQuotedValue (g : Spelling) (spot : spots.Spot) (quote : ℕ) (value b after : List ℕ) : Type 0 where
  pub written : List ℕ
  pub is : IsAssigned (quote ∷ (written ++ quote ∷ [])) b
  pub spells : SpellsText g.table (character_rules g) spot value written (quote ∷ after)

-- b spells a value in this form, with its '=', where `after` follows b
abbrev pub SpellsValue : Spelling → Quoting → List ℕ → List ℕ → List ℕ → Type 0
SpellsValue g bare value b after = (value ≡ []) × (b ≡ [])
SpellsValue g unquoted value b after = IsBareValue g value b after
SpellsValue g double value b after = IsQuotedValue g spots.double 34 value b after
SpellsValue g single value b after = IsQuotedValue g spots.single 39 value b after

-- b spells a start tag, where `after` follows b; attributes touch only under the rule `tight`, and only after a quote
abbrev pub SpellsStart : Spelling → List ℕ → List Attribute → Bool → List ℕ → List ℕ → Type 0
SpellsStart g name attributes slash b after = WritesStart (SpellsValue g) g.rules.tight name attributes slash b after

-- b spells a doctype; its words stand apart
abbrev pub SpellsDoctype : Bool → List ℕ → Type 0
SpellsDoctype legacy b = WritesDoctype true legacy b
