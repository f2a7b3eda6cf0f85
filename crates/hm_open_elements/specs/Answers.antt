-- What a call that took a tag returns.
use Rattle.std.specs.Prelude.{◌≡◌, List, [], ◌∷◌, length}
use Rattle.hm_base.specs.Walks.{Element}
use Rattle.hm_elements.specs.Names.{tbody, tr, colgroup}
use Rattle.hm_elements.specs.Paths.{html_element}
use Rattle.hm_open_elements.specs.Moves as rules
use Rattle.hm_open_elements.specs.Moves.{moves, without_void}
use Rattle.hm_open_elements.specs.declared.moves.Made.{Made}
use Rattle.hm_open_elements.specs.declared.moves.Made.TheVariants.{Nothing, Section, SectionAndRow, Row, Colgroup}
use Rattle.hm_open_elements.specs.declared.moves.Moves.{Moves}

-- the elements that were made, innermost first
abbrev pub elements_of : Made → List Element
elements_of Nothing = []
elements_of Section = html_element tbody ∷ []
elements_of SectionAndRow = html_element tr ∷ html_element tbody ∷ []
elements_of Row = html_element tr ∷ []
elements_of Colgroup = html_element colgroup ∷ []

-- The tag moves the open elements: as many close as the answer says, those of the answer are made, and this is the path then.
pub record IsMoved (does : rules.Moves) (answer : Moves) (path : List Element) : Type 0 where
  pub closed : List Element
  pub does_move : does ≡ moves closed (elements_of answer.made) path
  pub closes : answer.closes ≡ length closed

-- A start tag moves the open elements: a void element that opens closes at once.
pub record IsStarted (does : rules.Moves) (answer : Moves) (after : List Element) : Type 0 where
  pub path : List Element
  pub moved : IsMoved does answer path
  pub after_is : after ≡ without_void path
