-- What is settled of a tag before the open elements change.
use Rattle.std.specs.Prelude.{◌≡◌, ℕ, ◌+◌, ◌<◌, ◌≤◌, Bool, not, ◌&&◌, ◌||◌, List, [], ◌∷◌, ◌++◌, length, take, Option, Some, None, Result, Ok, Err, bytes_eq}
use Rattle.hm_base.specs.Walks.{Element}
use Rattle.hm_base.specs.declared.limits.TheConstants.{DEPTH_LIMIT}
use Rattle.hm_base.specs.declared.rules.Rule.{Rule}
use Rattle.hm_elements.specs.declared.kind.Kind.{Kind}
use Rattle.hm_elements.specs.Kinds.{kind}
use Rattle.hm_elements.specs.Names.{svg}
use Rattle.hm_elements.specs.Tables.{is_void}
use Rattle.hm_elements.specs.Paths.{is_in_svg, is_open}
use Rattle.hm_open_elements.specs.Moves.{Moves, moves, refuses, element, start_moves, end_moves, end_on}
use Rattle.hm_open_elements.specs.Answers.{elements_of}
use Rattle.hm_open_elements.specs.Elements.{name_of, element_of, path_of, AreMarked}
use Rattle.hm_open_elements.specs.declared.element.ElementName.{ElementName}
use Rattle.hm_open_elements.specs.declared.element.OpenElement.{OpenElement}
use Rattle.hm_open_elements.specs.declared.moves.Made.{Made}
use Rattle.hm_open_elements.specs.declared.plan.MovePlan.{MovePlan}

-- an HTML element, or svg, opens where these are made, or is refused
abbrev pub opened : List ℕ → List Element → List Element → Result Made Rule → Moves
opened n closed path (Ok made) = moves closed (elements_of made) (element n (bytes_eq n svg) ∷ (elements_of made ++ path))
opened n closed path (Err rule) = refuses rule

-- the start tag's element is one of SVG
abbrev pub opens_as_svg : List ℕ → List Element → Bool
opens_as_svg n path = is_in_svg path || bytes_eq n svg

-- what a start tag does: `plan.left` elements stay, these are made, and the element opens
pub record IsStartPlan (os : List OpenElement) (n : List ℕ) (plan : MovePlan) : Type 0 where
  pub closed : List Element
  pub does_move : start_moves n (path_of os) ≡ moves closed (elements_of plan.made) (element n (opens_as_svg n (path_of os)) ∷ (elements_of plan.made ++ path_of (take plan.left os)))
  pub closes : length closed + plan.left ≡ length os
  pub least : 2 ≤ plan.left
  pub room : plan.left + length (elements_of plan.made) < DEPTH_LIMIT
  pub void : plan.is_void ≡ not (opens_as_svg n (path_of os)) && is_void n

-- `left` elements stay where those are closed that an end tag implies
pub record IsReached (os : List OpenElement) (n : List ℕ) (left : ℕ) : Type 0 where
  pub closed : List Element
  pub ends : end_moves n (path_of os) ≡ end_on n closed (path_of (take left os)) (is_open n (path_of os))
  pub closes : length closed + left ≡ length os
  pub least : 2 ≤ left

-- `left` elements stay after an end tag
pub record IsEndPlan (os : List OpenElement) (n : List ℕ) (left : ℕ) : Type 0 where
  pub closed : List Element
  pub does_move : end_moves n (path_of os) ≡ moves closed [] (path_of (take left os))
  pub closes : length closed + left ≡ length os
  pub least : 2 ≤ left

-- the element that a kept name opens, and none without one
abbrev pub opened_by : Option ElementName → Bool → List Element
opened_by None foreign = []
opened_by (Some n) foreign = element (name_of n) foreign ∷ []

-- the kind is that of the name that is kept, if any
abbrev pub IsKindOf : Option ElementName → Kind → Type 0
IsKindOf None k = Unit {0}
IsKindOf (Some n) k = k ≡ kind (name_of n)

-- an element opens after the others
pub record IsPushed (old : List OpenElement) (e : Element) (new : List OpenElement) : Type 0 where
  pub last : OpenElement
  pub items : new ≡ old ++ last ∷ []
  pub element_is : element_of last ≡ e
  pub marked : AreMarked [] new
