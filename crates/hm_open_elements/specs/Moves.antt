-- What a tag does to the open elements of a body (HTML Standard, #parsing-main-inbody and following).
use Rattle.std.specs.Prelude.{ℕ, Bool, true, false, not, ◌&&◌, List, [], ◌∷◌, ◌++◌, if◌then◌else◌, bytes_eq}
use Rattle.hm_base.specs.Walks.{Element}
use Rattle.hm_base.specs.declared.rules.Rule.{Rule}
use Rattle.hm_base.specs.declared.rules.Rule.TheVariants.{RefusedName, SecondRoot, StrayEnd, NotCurrent, BlockInParagraph, Nested, WrongParent, TooDeep, ForeignName}
use Rattle.hm_elements.specs.Names.{svg}
use Rattle.hm_elements.specs.Tables.{is_root, is_void, is_refused, is_svg_name, holds_svg_text}
use Rattle.hm_elements.specs.Paths.{current, is_in_svg, outer, front, rest_after, is_closed_by_start_of, is_closed_by_end_of, made_on, stands_on, is_open, is_block_in_p, is_nested, is_deep}

-- The elements that close and those that are made, innermost first, and the open elements then; or why the tag is refused.
-- An element that opens is the innermost one then, also where it is void.
pub data Moves : Type 0 where
  moves : List Element → List Element → List Element → Moves
  refuses : Rule → Moves

abbrev pub element : List ℕ → Bool → Element
element n foreign = record { name = n; foreign = foreign }

-- an element opens, unless it would be one too many
abbrev pub opens : Element → List Element → List Element → List Element → Moves
opens e closed made path = if is_deep (e ∷ path) then refuses TooDeep else moves closed made (e ∷ path)

-- an HTML element, or svg, opens where it may stand, on a path on which the made elements stand
abbrev pub opens_in_place : List ℕ → List Element → List Element → List Element → Moves
opens_in_place n closed made path =
    if is_deep path then refuses TooDeep
    else if not (stands_on n path) then refuses WrongParent
    else opens (element n (bytes_eq n svg)) closed made path

-- after the elements that the start tag closes are closed
abbrev pub start_on : List ℕ → List Element → List Element → Moves
start_on n closed path =
    if is_block_in_p n path then refuses BlockInParagraph
    else if is_nested n path then refuses Nested
    else opens_in_place n closed (made_on n path) (made_on n path ++ path)

-- in an element of SVG
abbrev pub svg_start_moves : List ℕ → List Element → Moves
svg_start_moves n path =
    if not (is_svg_name n) then refuses ForeignName
    else if holds_svg_text (current path) then refuses WrongParent
    else opens (element n true) [] [] path

abbrev pub html_start_moves : List ℕ → List Element → Moves
html_start_moves n path =
    if is_refused n then refuses RefusedName
    else if is_root n then refuses SecondRoot
    else start_on n (front (is_closed_by_start_of n) path) (rest_after (is_closed_by_start_of n) path)

-- a start tag with this name
unfoldable pub start_moves : List ℕ → List Element → Moves
start_moves n path = if is_in_svg path then svg_start_moves n path else html_start_moves n path

-- an end tag ends nothing: its element is open further out, or nowhere
abbrev pub ends_nothing : Bool → Moves
ends_nothing true = refuses NotCurrent
ends_nothing false = refuses StrayEnd

-- where the elements whose ends are implied are closed; the tag ends the innermost one that is left, if it has its name
abbrev pub end_on : List ℕ → List Element → List Element → Bool → Moves
end_on n closed [] somewhere = ends_nothing somewhere
end_on n closed (e ∷ path) somewhere = if bytes_eq e.name n then moves (closed ++ e ∷ []) [] path else ends_nothing somewhere

abbrev pub html_end_moves : List ℕ → List Element → Moves
html_end_moves n path = end_on n (front (is_closed_by_end_of n) path) (rest_after (is_closed_by_end_of n) path) (is_open n path)

-- An end tag with this name, which is neither body nor html. In SVG no end is implied.
unfoldable pub end_moves : List ℕ → List Element → Moves
end_moves n path = if is_in_svg path then end_on n [] path (is_open n path) else html_end_moves n path

-- a void element of HTML is the innermost one
abbrev pub is_void_open : List Element → Bool
is_void_open [] = false
is_void_open (e ∷ path) = not e.foreign && is_void e.name

-- the open elements once a void element has closed
abbrev pub without_void : List Element → List Element
without_void path = if is_void_open path then outer path else path
