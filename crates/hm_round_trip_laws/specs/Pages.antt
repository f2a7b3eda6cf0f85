-- Spelled trees are the bytes of a page: UTF-8 without a zero byte, and with other line ends a spelling of the same tree.
use Rattle.std.specs.Prelude.{◌≡◌, ℕ, false, List, [], None}
use Rattle.std.specs.Str.{IsUtf8}
use Rattle.hm_base.specs.Forms.{has_byte}
use Rattle.hm_base.specs.Source.{text_of, text_fault}
use Rattle.hm_base.specs.Walks.{Event}
use Rattle.hm_elements.specs.Settled.{Settled}
use Rattle.hm_refs.specs.Names.{Entry}
use Rattle.hm_refs.specs.Tables.{IsTable}
use Rattle.hm_spelling_spec.specs.Characters.{Spot, CharacterRules, SpellsPoints}
use Rattle.hm_spelling_spec.specs.Spellings.{other, SpellsFrom}
use Rattle.hm_spelling_spec.specs.Tags.{Spelling}

-- A CR stands in no spelled text and in no spelled value, so that whitespace of tags and doctypes alone may hold one.
abbrev pub SpelledPointsHaveNoReturn : Type 0
SpelledPointsHaveNoReturn = (t : List Entry) (rules : CharacterRules) (spot : Spot) (cs b after : List ℕ) → IsTable t → SpellsPoints t rules spot cs b after → has_byte 13 b ≡ false

-- bytes that are UTF-8 without a zero byte
pub record IsClean (b : List ℕ) : Type 0 where
  pub utf8 : IsUtf8 b
  pub no_zero : has_byte 0 b ≡ false

-- What spells a settled tree is UTF-8 without a zero byte.
abbrev pub SettledSpellingsAreClean : Type 0
SettledSpellingsAreClean = (g : Spelling) (w : List Event) (b : List ℕ) → IsTable g.table → Settled w → SpellsFrom g other [] w b → IsClean b

-- So it has a text, as the bytes of a page do. The text spells the tree as well: each line end is a line feed there.
abbrev pub SettledSpellingsHaveText : Type 0
SettledSpellingsHaveText = (g : Spelling) (w : List Event) (b : List ℕ) → IsTable g.table → Settled w → SpellsFrom g other [] w b → (text_fault b ≡ None) × SpellsFrom g other [] w (text_of b)
