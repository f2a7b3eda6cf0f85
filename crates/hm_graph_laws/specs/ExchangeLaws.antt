-- A character reference at a plain character is needless: no spelling needs one to be short.
use Rattle.std.specs.Prelude.{◌≤◌, ℕ, Bool, not, List, length}
use Rattle.hm_base.specs.Walks.{Event}
use Rattle.hm_base.specs.declared.plain.SpellRules.{SpellRules}
use Rattle.hm_refs.specs.Names.{Entry}
use Rattle.hm_refs.specs.Plain.{is_plain}
use Rattle.hm_refs.specs.Tables.{IsTable}
use Rattle.hm_spelling_spec.specs.Characters.{CharacterRules, SpellsPoints, Spot}
use Rattle.hm_spelling_spec.specs.Spellings.{Spells, SpellsWhere}
use Rattle.hm_spelling_spec.specs.Tags.{Spelling}

-- the rules with which a reference begins at none of these characters
abbrev pub sparing : CharacterRules → (ℕ → Bool) → CharacterRules
sparing rules plain = record { ascii = rules.ascii; refers = λ c. not (plain c) }

-- a spelling of the code points before the same bytes, with no more bytes than b
pub record HasPlainText (t : List Entry) (rules : CharacterRules) (spot : Spot) (cs b after : List ℕ) : Type 0 where
  pub bytes : List ℕ
  pub spells : SpellsPoints t (sparing rules (is_plain t)) spot cs bytes after
  pub short : length bytes ≤ length b

abbrev pub TextsSparePlain : Type 0
TextsSparePlain = (t : List Entry) → IsTable t → (rules : CharacterRules) (spot : Spot) (cs b after : List ℕ) → SpellsPoints t rules spot cs b after → HasPlainText t rules spot cs b after

-- whether a reference may begin at c
abbrev pub needs_reference : List Entry → ℕ → Bool
needs_reference t c = not (is_plain t c)

-- the spelling by a table and these rules in which no reference begins at a plain character; the graph of a tree has its edges
abbrev pub sparing_plain : List Entry → SpellRules → Spelling
sparing_plain t r = record { table = t; rules = r; refers = needs_reference t }

-- a spelling of the tree with no more bytes than b, in which no reference begins at a plain character
pub record HasPlainSpelling (t : List Entry) (r : SpellRules) (w : List Event) (b : List ℕ) : Type 0 where
  pub bytes : List ℕ
  pub spells : SpellsWhere (needs_reference t) t r w bytes
  pub short : length bytes ≤ length b

abbrev pub SpellingsSparePlain : Type 0
SpellingsSparePlain = (t : List Entry) → IsTable t → (r : SpellRules) (w : List Event) (b : List ℕ) → Spells t r w b → HasPlainSpelling t r w b
