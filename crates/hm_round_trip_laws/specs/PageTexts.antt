-- The text of a page that spells a settled tree: it has no CR, and spells the tree too.
use Rattle.std.specs.Prelude.{◌≡◌, ◌≤◌, ℕ, true, List, [], length, None}
use Rattle.hm_base.specs.Bytes.{head_is}
use Rattle.hm_base.specs.Forms.{is_byte}
use Rattle.hm_base.specs.Source.{numbered, without_mark, text_of, text_fault}
use Rattle.hm_base.specs.Walks.{Event}
use Rattle.hm_elements.specs.Settled.{Settled}
use Rattle.hm_refs.specs.Tables.{IsTable}
use Rattle.hm_spelling_spec.specs.Spellings.{other, SpellsFrom}
use Rattle.hm_spelling_spec.specs.Tags.{Spelling}
use Rattle.hm_token_laws.specs.Laws.{IsPlain}

-- It begins with '<': a doctype is always written, and only comments may stand before it.
abbrev pub SpelledPagesBeginWithMarkup : Type 0
SpelledPagesBeginWithMarkup = (g : Spelling) (w : List Event) (page : List ℕ) → Settled w → SpellsFrom g other [] w page → head_is (is_byte 60) page ≡ true

-- The page has a text, and no mark before it. The text is UTF-8 without zero byte and CR. It spells the tree in no more
-- bytes, and as a page it is its own text.
pub record HasSpelledText (g : Spelling) (w : List Event) (page : List ℕ) : Type 0 where
  pub sound : text_fault page ≡ None
  pub no_mark : without_mark (numbered 0 page) ≡ numbered 0 page
  pub plain : IsPlain (text_of page)
  pub spells : SpellsFrom g other [] w (text_of page)
  pub no_longer : length (text_of page) ≤ length page
  pub own : text_of (text_of page) ≡ text_of page

abbrev pub SpelledPagesHaveSpelledTexts : Type 0
SpelledPagesHaveSpelledTexts = (g : Spelling) (w : List Event) (page : List ℕ) → IsTable g.table → Settled w → SpellsFrom g other [] w page → HasSpelledText g w page
