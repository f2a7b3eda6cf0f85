-- What start tags make before the body.
use Rattle.std.specs.Prelude.{Bool, true, false, List, [], ◌∷◌, ◌++◌, None}
use Rattle.hm_base.specs.Walks.{Event, start}
use Rattle.hm_elements.specs.Names.{html, head}
use Rattle.hm_insertion.specs.declared.insertion.BuilderMode.{BuilderMode}
use Rattle.hm_insertion.specs.declared.insertion.BuilderMode.TheVariants.{BeforeHtml, BeforeHead, InHead, AfterHead}
use Rattle.hm_insertion.specs.declared.parts.Parts.{Parts}

-- the insertion modes between the doctype and the body
abbrev pub IsBefore : BuilderMode → Type 0
IsBefore BeforeHtml = Unit {0}
IsBefore BeforeHead = Unit {0}
IsBefore (InHead here inner) = Unit {0}
IsBefore AfterHead = Unit {0}
IsBefore insertion_mode = ⊥

-- those in which head may still take a child, and nothing is open in it
abbrev pub TakesChildren : BuilderMode → Type 0
TakesChildren BeforeHtml = Unit {0}
TakesChildren BeforeHead = Unit {0}
TakesChildren (InHead false None) = Unit {0}
TakesChildren insertion_mode = ⊥

-- html is there, or made
abbrev pub html_opened : BuilderMode → List Event
html_opened BeforeHtml = start html false [] ∷ []
html_opened insertion_mode = []

-- html and head are there, or made
abbrev pub head_opened : BuilderMode → List Event
head_opened BeforeHtml = start html false [] ∷ start head false [] ∷ []
head_opened BeforeHead = start head false [] ∷ []
head_opened insertion_mode = []

-- the parts where head is open, with what was missing made
abbrev pub in_open_head : Parts → Parts
in_open_head p = record p { maker = p.maker ++ head_opened p.insertion_mode; insertion_mode = InHead false None }

-- body can't open any more, or not before the end of noscript in head
abbrev pub has_begun : BuilderMode → Bool
has_begun BeforeHtml = false
has_begun BeforeHead = false
has_begun (InHead here inner) = here
has_begun AfterHead = false
has_begun insertion_mode = true
