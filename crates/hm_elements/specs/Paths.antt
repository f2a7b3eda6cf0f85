-- Open elements, innermost first, and what the rules of nesting ask of them.
use Rattle.std.specs.Prelude.{ℕ, Bool, false, not, ◌&&◌, ◌||◌, nat_lt, List, [], ◌∷◌, length, map, Option, Some, None, if◌then◌else◌, bytes_eq}
use Rattle.hm_base.specs.Walks.{Element}
use Rattle.hm_base.specs.declared.limits.TheConstants.{DEPTH_LIMIT}
use Rattle.hm_elements.specs.Names.{words, is_among, head, noscript, p}
use Rattle.hm_elements.specs.Tables.{is_raw, holds_text, is_heading, is_unnested, closes_p, is_boundary}
use Rattle.hm_elements.specs.Nesting.{is_name, may_stand, is_closed_by_start, is_ended_by, made_under}

abbrev pub html_element : List ℕ → Element
html_element n = record { name = n; foreign = false }

-- the longest prefix whose elements pass
abbrev pub front : (Element → Bool) → List Element → List Element
front q [] = []
front q (e ∷ path) = if q e then e ∷ front q path else []

-- what follows that prefix
abbrev pub rest_after : (Element → Bool) → List Element → List Element
rest_after q [] = []
rest_after q (e ∷ path) = if q e then rest_after q path else e ∷ path

-- the name of the innermost element, and no bytes at the top
abbrev pub current : List Element → List ℕ
current [] = []
current (e ∷ path) = e.name

abbrev pub current_name : List Element → Option (List ℕ)
current_name [] = None
current_name (e ∷ path) = Some e.name

-- the innermost element is one of SVG
abbrev pub is_in_svg : List Element → Bool
is_in_svg [] = false
is_in_svg (e ∷ path) = e.foreign

-- the elements around the innermost one
abbrev pub outer : List Element → List Element
outer [] = []
outer (e ∷ path) = path

-- An HTML element of that name may stand in the innermost element, as far as the tables of names say.
abbrev pub stands_on : List ℕ → List Element → Bool
stands_on n [] = false
stands_on n (e ∷ path) = may_stand n e.name (current_name path)

-- the innermost element closes before a start tag of that name
abbrev pub head_yields : List Element → List ℕ → Bool
head_yields [] n = false
head_yields (e ∷ path) n = is_closed_by_start e.name n

-- an element of that name is open, of HTML or of SVG
abbrev pub is_open : List ℕ → List Element → Bool
is_open n [] = false
is_open n (e ∷ path) = bytes_eq e.name n || is_open n path

abbrev pub is_heading_open : List Element → Bool
is_heading_open [] = false
is_heading_open (e ∷ path) = is_heading e.name || is_heading_open path

-- a p is open with no boundary above it
abbrev pub is_p_open : List Element → Bool
is_p_open [] = false
is_p_open (e ∷ path) = bytes_eq e.name p || (not (is_boundary e.name e.foreign) && is_p_open path)

-- A start tag of that name would close a paragraph that isn't the innermost element.
unfoldable pub is_block_in_p : List ℕ → List Element → Bool
is_block_in_p n path = closes_p n && is_p_open path

-- The element would stand in one of its own kind.
unfoldable pub is_nested : List ℕ → List Element → Bool
is_nested n path = (is_unnested n && is_open n path) || (is_heading n && is_heading_open path)

-- More elements are open than may be.
unfoldable pub is_deep : List Element → Bool
is_deep path = nat_lt DEPTH_LIMIT (length path)

-- the open element closes before a start tag of that name
abbrev pub is_closed_by_start_of : List ℕ → Element → Bool
is_closed_by_start_of n e = is_closed_by_start e.name n

-- the open element, of another name, closes with an end tag of that name
abbrev pub is_closed_by_end_of : List ℕ → Element → Bool
is_closed_by_end_of n e = not (bytes_eq e.name n) && is_ended_by e.name n

-- the elements that are made before one of that name opens, innermost first
abbrev pub made_on : List ℕ → List Element → List Element
made_on n path = map html_element (made_under (current path) n)

-- a text here is raw
abbrev pub is_in_raw : List Element → Bool
is_in_raw [] = false
is_in_raw (e ∷ path) = not e.foreign && is_raw e.name

-- only one text stands here
abbrev pub is_in_text : List Element → Bool
is_in_text [] = false
is_in_text (e ∷ path) = not e.foreign && holds_text e.name

unfoldable pub blank_parents : List (List ℕ)
blank_parents = words "head table thead tbody tfoot tr colgroup select optgroup"

-- A text here is only whitespace.
unfoldable pub is_in_blank : List Element → Bool
is_in_blank [] = false
is_in_blank (e ∷ path) = not e.foreign && (is_among e.name blank_parents || (bytes_eq e.name noscript && is_name head (current_name path)))
