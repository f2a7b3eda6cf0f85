-- What holds of trees that are built.
use Rattle.std.specs.Prelude.{◌≡◌, ℕ, ◌+◌, List, None, map}
use Rattle.hm_base.specs.Source.{Source, byte_of, text_fault, source_of}
use Rattle.hm_base.specs.Walks.{Event}
use Rattle.hm_elements.specs.Settled.{Settled}
use Rattle.hm_refs.specs.Names.{Entry}
use Rattle.hm_token_laws.specs.Laws.{IsPlain, SoundNames}
use Rattle.hm_tree.specs.Tokens.{Seen}
use Rattle.hm_construction_laws.specs.Steps.{Construction, step, step_over}
use Rattle.hm_construction_laws.specs.Trees.{built, tree_of_source, page_tree}
use Rattle.hm_construction_laws.specs.Weights.{load, load_size, cost, size_cost, span, Within, WithinAll}

-- Every walk that is built of the text of a page is settled.
abbrev pub BuiltIsSettled : Type 0
BuiltIsSettled = (t : List Entry) (page : Source) (w : List Event) → SoundNames t → IsPlain (map byte_of page.placed) → tree_of_source t page ≡ built w → Settled w

-- The text of a page that has one is UTF-8 without zero byte and CR.
abbrev pub TextsArePlain : Type 0
TextsArePlain = (page : List ℕ) → text_fault page ≡ None → IsPlain (map byte_of (source_of page).placed)

-- So every walk that is built of a page is settled, whatever the page.
abbrev pub PagesAreSettled : Type 0
PagesAreSettled = (t : List Entry) (page : List ℕ) (w : List Event) → SoundNames t → page_tree t page ≡ built w → Settled w

-- How large a tree can grow: a step adds no more than its token may add and what was still to come. It is refused inside
-- its token.
abbrev pub StepsAreWithin : Type 0
StepsAreWithin = (st : Construction) (token : Seen) → Within (load st + cost token) (load_size st + size_cost token) (span token) (step st token)

-- The end of a page adds no more than what was still to come.
abbrev pub EndsAreWithin : Type 0
EndsAreWithin = (st : Construction) → WithinAll (load st) (load_size st) (step_over st)
