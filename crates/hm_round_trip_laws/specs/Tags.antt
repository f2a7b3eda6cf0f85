-- Spelled tags and doctypes are the next token, whatever follows them.
use Rattle.std.specs.Prelude.{◌≡◌, ℕ, Bool, true, List, ◌++◌}
use Rattle.hm_base.specs.Forms.{is_tag_name}
use Rattle.hm_base.specs.Walks.{Attribute}
use Rattle.hm_elements.specs.Places.{AttributesAllowed}
use Rattle.hm_markup_spec.specs.Tags.{WritesStart}
use Rattle.hm_refs.specs.Tables.{IsTable}
use Rattle.hm_spelling_spec.specs.Tags.{Spelling, SpellsStart, SpellsDoctype}
use Rattle.hm_scan.specs.ReadBack.{WritesValue}
use Rattle.hm_token_laws.specs.First.{Mode}
use Rattle.hm_token_laws.specs.Laws.{reads_markup}
use Rattle.hm_token_laws.specs.Written.{IsNextMarkup}
use Rattle.hm_tree.specs.Tokens.{start_tag, doctype}

-- What spells a start tag writes one whose values are read back.
abbrev pub SpelledStartsAreWritten : Type 0
SpelledStartsAreWritten = (g : Spelling) (name : List ℕ) (attributes : List Attribute) (slash : Bool) (b after : List ℕ)
    → IsTable g.table → AttributesAllowed attributes → SpellsStart g name attributes slash b after → WritesStart (WritesValue g.table) true name attributes slash b after

abbrev pub SpelledStartsAreNext : Type 0
SpelledStartsAreNext = (g : Spelling) (mode : Mode) (name : List ℕ) (attributes : List Attribute) (slash : Bool) (b after : List ℕ)
    → IsTable g.table → reads_markup mode ≡ true → is_tag_name name ≡ true → AttributesAllowed attributes → SpellsStart g name attributes slash b after
    → IsNextMarkup g.table mode (b ++ after) (start_tag name attributes slash) after

abbrev pub SpelledDoctypesAreNext : Type 0
SpelledDoctypesAreNext = (g : Spelling) (mode : Mode) (legacy : Bool) (b after : List ℕ)
    → reads_markup mode ≡ true → SpellsDoctype legacy b → IsNextMarkup g.table mode (b ++ after) (doctype legacy) after
