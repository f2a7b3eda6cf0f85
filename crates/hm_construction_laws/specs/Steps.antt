-- How a tree is built, token by token (HTML Standard, #tree-construction), on pages without repairs.
--
-- A step returns the events that it makes and the next state, or the rule that refuses the token. Texts are taken byte by
-- byte: no rule asks for a byte of a code point above U+007F, and all of these are treated like the first.
use Rattle.std.specs.Prelude.{ℕ, ◌+◌, Bool, true, false, not, ◌&&◌, ◌||◌, ◌==◌, List, [], ◌∷◌, ◌++◌, map, if◌then◌else◌, bytes_eq, encode_utf8_all}
use Rattle.hm_base.specs.Bytes.{is_space}
use Rattle.hm_base.specs.Walks.{Attribute, Event, doctype, start, text, comment, end, Element}
use Rattle.hm_base.specs.declared.rules.Rule.{Rule}
use Rattle.hm_base.specs.declared.rules.Rule.TheVariants.{Cut, NoDoctype, SecondDoctype, RefusedName, SecondRoot, StrayEnd, NotCurrent, WrongParent, TextHere, AfterHead, AfterBody, Unclosed}
use Rattle.hm_elements.specs.Names.{is_among, html, head, body, noscript, p}
use Rattle.hm_elements.specs.Tables.{is_refused, is_metadata, preformatted}
use Rattle.hm_elements.specs.Nesting.{noscript_children}
use Rattle.hm_elements.specs.Paths.{html_element, current, is_in_svg, stands_on, is_open, is_in_raw, is_in_text, is_in_blank}
use Rattle.hm_open_elements.specs.Moves.{Moves, moves, refuses, start_moves, end_moves, is_void_open}
use Rattle.hm_tree.specs.Tokens.{Seen}
use Rattle.hm_tree.specs.Tokens as tokens

-- insertion modes, as far as they are distinguished
pub data InsertionMode : Type 0 where
  initial : InsertionMode
  before_html : InsertionMode
  before_head : InsertionMode
  in_head : InsertionMode
  after_head : InsertionMode
  in_body : InsertionMode
  after_body : InsertionMode
  after_html : InsertionMode

-- The insertion mode, the open elements, whether a line feed that comes next is dropped, and the comments after body and
-- html. These stand in the tree only after what is still open.
pub record Construction : Type 0 where
  pub insertion_mode : InsertionMode
  pub path : List Element
  pub drops_line_feed : Bool
  pub comments_after_body : List (List ℕ)
  pub comments_after_html : List (List ℕ)

-- the events of a step and the next state, or a rule, with the number of bytes of the token before those that it refuses
pub data Stepped : Type 0 where
  went : List Event → Construction → Stepped
  stops : Rule → ℕ → Stepped

abbrev pub stepped_after_events : List Event → Stepped → Stepped
stepped_after_events es (went fs st) = went (es ++ fs) st
stepped_after_events es (stops rule n) = stops rule n

abbrev pub moved : Construction → InsertionMode → List Element → Construction
moved st insertion_mode path = record st { insertion_mode = insertion_mode; path = path }

-- ---- One element is made or closed, and the step goes on

abbrev pub under_html : List Element
under_html = html_element html ∷ []

abbrev pub under_head : List Element
under_head = html_element head ∷ under_html

abbrev pub under_body : List Element
under_body = html_element body ∷ under_html

abbrev pub make_html : (Construction → Stepped) → Construction → Stepped
make_html more st = stepped_after_events (start html false [] ∷ []) (more (moved st before_head under_html))

abbrev pub make_head : (Construction → Stepped) → Construction → Stepped
make_head more st = stepped_after_events (start head false [] ∷ []) (more (moved st in_head under_head))

abbrev pub close_head : (Construction → Stepped) → Construction → Stepped
close_head more st = stepped_after_events (end head false ∷ []) (more (moved st after_head under_html))

abbrev pub make_body : (Construction → Stepped) → Construction → Stepped
make_body more st = stepped_after_events (start body false [] ∷ []) (more (moved st in_body under_body))

-- what is missing up to the open head is made
abbrev pub reach_head : InsertionMode → Rule → (Construction → Stepped) → Construction → Stepped
reach_head before_html rule more st = make_html (make_head more) st
reach_head before_head rule more st = make_head more st
reach_head in_head rule more st = more st
reach_head insertion_mode rule more st = stops rule 0

-- what is missing up to body is made, and head is closed
abbrev pub reach_body : InsertionMode → (Construction → Stepped) → Construction → Stepped
reach_body initial more st = stops NoDoctype 0
reach_body before_html more st = make_html (make_head (close_head (make_body more))) st
reach_body before_head more st = make_head (close_head (make_body more)) st
reach_body in_head more st = close_head (make_body more) st
reach_body after_head more st = make_body more st
reach_body in_body more st = more st
reach_body after_body more st = stops AfterBody 0
reach_body after_html more st = stops AfterBody 0

-- ---- Texts

-- noscript in head is the innermost element
abbrev pub is_in_noscript : InsertionMode → List Element → Bool
is_in_noscript in_head path = bytes_eq (current path) noscript
is_in_noscript insertion_mode path = false

abbrev pub keep_byte : ℕ → Construction → Stepped
keep_byte c st = went (text (c ∷ []) (is_in_raw st.path) ∷ []) st

-- whitespace is dropped before head, and else stands where it is
abbrev pub space_byte : InsertionMode → ℕ → Construction → Stepped
space_byte initial c st = went [] st
space_byte before_html c st = went [] st
space_byte before_head c st = went [] st
space_byte insertion_mode c st = keep_byte c st

abbrev pub body_byte : ℕ → Construction → Stepped
body_byte c st = if is_in_blank st.path then stops TextHere 0 else keep_byte c st

abbrev pub other_byte : ℕ → Construction → Stepped
other_byte c st = if is_in_noscript st.insertion_mode st.path then stops TextHere 0 else reach_body st.insertion_mode (body_byte c) st

-- a byte of a text; in title, textarea, style, iframe and script each stands where it is
abbrev pub kept_byte : ℕ → Construction → Stepped
kept_byte c st =
    if is_in_text st.path then keep_byte c st
    else if is_space c then space_byte st.insertion_mode c st
    else other_byte c st

abbrev pub no_drop : Construction → Construction
no_drop st = record st { drops_line_feed = false }

unfoldable pub step_byte : ℕ → Construction → Stepped
step_byte c st = if st.drops_line_feed && c == 10 then went [] (no_drop st) else kept_byte c (no_drop st)

-- a step after n bytes of the same token
abbrev pub after_bytes : ℕ → Stepped → Stepped
after_bytes n (went es st) = went es st
after_bytes n (stops rule k) = stops rule (n + k)

abbrev pub then_step : Stepped → (Construction → Stepped) → Stepped
then_step (went es st) more = stepped_after_events es (more st)
then_step (stops rule n) more = stops rule n

abbrev pub step_bytes : List ℕ → Construction → Stepped
step_bytes [] st = went [] st
step_bytes (c ∷ s) st = then_step (step_byte c st) (λ next. after_bytes 1 (step_bytes s next))

-- what a reference gives is refused at its start
abbrev pub at_front : Stepped → Stepped
at_front (went es st) = went es st
at_front (stops rule n) = stops rule 0

-- ---- Start tags

-- a line feed directly after the start tags of these is dropped
abbrev pub drops_after : List Element → Bool
drops_after [] = false
drops_after (e ∷ path) = not e.foreign && is_among e.name preformatted

-- the innermost element was opened by a tag: it closes at once if it is void, or one of SVG whose tag closes itself
abbrev pub closes_at_once : Bool → List Element → Bool
closes_at_once slash path = is_void_open path || (slash && is_in_svg path)

abbrev pub entered : List Attribute → Bool → Construction → List Element → Stepped
entered attributes slash st [] = went [] st
entered attributes slash st (e ∷ path) =
    if closes_at_once slash (e ∷ path) then went (start e.name e.foreign attributes ∷ end e.name e.foreign ∷ []) (record st { path = path })
    else went (start e.name e.foreign attributes ∷ []) (record st { path = e ∷ path; drops_line_feed = drops_after (e ∷ path) })

abbrev pub end_event : Element → Event
end_event e = end e.name e.foreign

abbrev pub start_event : Element → Event
start_event e = start e.name e.foreign []

-- the starts of elements that are given innermost first
abbrev pub starts : List Element → List Event
starts [] = []
starts (e ∷ path) = starts path ++ start_event e ∷ []

abbrev pub after_moves : List Attribute → Bool → Construction → Moves → Stepped
after_moves attributes slash st (moves closed made path) = stepped_after_events (map end_event closed ++ starts made) (entered attributes slash st path)
after_moves attributes slash st (refuses rule) = stops rule 0

abbrev pub start_in_body : List ℕ → List Attribute → Bool → Construction → Stepped
start_in_body n attributes slash st = after_moves attributes slash st (start_moves n st.path)

abbrev pub opened : List ℕ → List Attribute → Construction → Stepped
opened n attributes st = entered attributes false st (html_element n ∷ st.path)

abbrev pub open_html : InsertionMode → List Attribute → Construction → Stepped
open_html before_html attributes st = went (start html false attributes ∷ []) (moved st before_head under_html)
open_html insertion_mode attributes st = stops SecondRoot 0

abbrev pub open_head_here : List Attribute → Construction → Stepped
open_head_here attributes st = went (start head false attributes ∷ []) (moved st in_head under_head)

abbrev pub open_head : InsertionMode → List Attribute → Construction → Stepped
open_head before_html attributes st = make_html (open_head_here attributes) st
open_head before_head attributes st = open_head_here attributes st
open_head insertion_mode attributes st = stops SecondRoot 0

abbrev pub open_body_here : List Attribute → Construction → Stepped
open_body_here attributes st = went (start body false attributes ∷ []) (moved st in_body under_body)

abbrev pub open_body : InsertionMode → List Attribute → Construction → Stepped
open_body before_html attributes st = make_html (make_head (close_head (open_body_here attributes))) st
open_body before_head attributes st = make_head (close_head (open_body_here attributes)) st
open_body in_head attributes st = if is_in_noscript in_head st.path then stops SecondRoot 0 else close_head (open_body_here attributes) st
open_body after_head attributes st = open_body_here attributes st
open_body insertion_mode attributes st = stops SecondRoot 0

abbrev pub start_after_head : List ℕ → List Attribute → Bool → Construction → Stepped
start_after_head n attributes slash st = if is_metadata n then stops AfterHead 0 else make_body (start_in_body n attributes slash) st

abbrev pub start_in_noscript : List ℕ → List Attribute → Construction → Stepped
start_in_noscript n attributes st = if is_among n noscript_children then opened n attributes st else stops WrongParent 0

abbrev pub start_in_head : List ℕ → List Attribute → Bool → Construction → Stepped
start_in_head n attributes slash st =
    if is_in_noscript in_head st.path then start_in_noscript n attributes st
    else if stands_on n st.path then opened n attributes st
    else close_head (start_after_head n attributes slash) st

abbrev pub start_inside : InsertionMode → List ℕ → List Attribute → Bool → Construction → Stepped
start_inside before_html n attributes slash st = make_html (make_head (start_in_head n attributes slash)) st
start_inside before_head n attributes slash st = make_head (start_in_head n attributes slash) st
start_inside in_head n attributes slash st = start_in_head n attributes slash st
start_inside after_head n attributes slash st = start_after_head n attributes slash st
start_inside insertion_mode n attributes slash st = start_in_body n attributes slash st

-- a start tag that isn't of SVG
abbrev pub html_start : List ℕ → List Attribute → Bool → Construction → Stepped
html_start n attributes slash st =
    if is_refused n then stops RefusedName 0
    else if bytes_eq n html then open_html st.insertion_mode attributes st
    else if bytes_eq n head then open_head st.insertion_mode attributes st
    else if bytes_eq n body then open_body st.insertion_mode attributes st
    else start_inside st.insertion_mode n attributes slash st

-- before the doctype, or after body
abbrev pub is_outside : InsertionMode → Bool
is_outside initial = true
is_outside after_body = true
is_outside after_html = true
is_outside insertion_mode = false

abbrev pub outside_rule : InsertionMode → Rule
outside_rule initial = NoDoctype
outside_rule insertion_mode = AfterBody

unfoldable pub step_start : List ℕ → List Attribute → Bool → Construction → Stepped
step_start n attributes slash st =
    if is_outside st.insertion_mode then stops (outside_rule st.insertion_mode) 0
    else if is_in_svg st.path then start_in_body n attributes slash st
    else html_start n attributes slash st

-- ---- End tags

abbrev pub after_end_moves : Construction → Moves → Stepped
after_end_moves st (moves closed made path) = went (map end_event closed) (record st { path = path })
after_end_moves st (refuses rule) = stops rule 0

-- the innermost element alone may be ended
abbrev pub end_current : List ℕ → Construction → List Element → Stepped
end_current n st [] = stops StrayEnd 0
end_current n st (e ∷ path) =
    if bytes_eq e.name n then went (end_event e ∷ []) (record st { path = path })
    else if is_open n (e ∷ path) then stops NotCurrent 0
    else stops StrayEnd 0

abbrev pub end_head : InsertionMode → Construction → Stepped
end_head insertion_mode st = reach_head insertion_mode StrayEnd (λ here. went (end head false ∷ []) (moved here after_head under_html)) st

-- html and body, with at most one p in it
unfoldable pub is_at_end : List Element → Bool
is_at_end path = is_frame path
  where
    is_named : List ℕ → Element → Bool
    is_named n e = not e.foreign && bytes_eq e.name n

    is_frame : List Element → Bool
    is_frame [] = false
    is_frame (e ∷ []) = false
    is_frame (e ∷ f ∷ []) = is_named body e && is_named html f
    is_frame (e ∷ f ∷ g ∷ []) = is_named p e && (is_named body f && is_named html g)
    is_frame (e ∷ f ∷ g ∷ h ∷ path) = false

abbrev pub leave_body : InsertionMode → Construction → Stepped
leave_body insertion_mode st = if is_at_end st.path then went [] (record st { insertion_mode = insertion_mode }) else stops Unclosed 0

abbrev pub end_body : InsertionMode → Construction → Stepped
end_body insertion_mode st = reach_body insertion_mode (leave_body after_body) st

abbrev pub end_html : InsertionMode → Construction → Stepped
end_html after_body st = went [] (record st { insertion_mode = after_html })
end_html insertion_mode st = reach_body insertion_mode (leave_body after_html) st

abbrev pub end_inside : InsertionMode → List ℕ → Construction → Stepped
end_inside in_body n st = after_end_moves st (end_moves n st.path)
end_inside insertion_mode n st = stops StrayEnd 0

abbrev pub html_end : List ℕ → Construction → Stepped
html_end n st =
    if bytes_eq n head then end_head st.insertion_mode st
    else if bytes_eq n body then end_body st.insertion_mode st
    else if bytes_eq n html then end_html st.insertion_mode st
    else end_inside st.insertion_mode n st

abbrev pub end_outside : InsertionMode → List ℕ → Construction → Stepped
end_outside after_body n st = if bytes_eq n html then end_html after_body st else stops AfterBody 0
end_outside insertion_mode n st = stops (outside_rule insertion_mode) 0

unfoldable pub step_end : List ℕ → Construction → Stepped
step_end n st =
    if is_in_text st.path then end_current n st st.path
    else if is_outside st.insertion_mode then end_outside st.insertion_mode n st
    else if is_in_svg st.path || is_in_noscript st.insertion_mode st.path then end_current n st st.path
    else html_end n st

-- ---- Comments and doctypes

abbrev pub step_comment : InsertionMode → List ℕ → Construction → Stepped
step_comment after_body s st = went [] (record st { comments_after_body = st.comments_after_body ++ s ∷ [] })
step_comment after_html s st = went [] (record st { comments_after_html = st.comments_after_html ++ s ∷ [] })
step_comment insertion_mode s st = went (comment s ∷ []) st

abbrev pub step_doctype : InsertionMode → Bool → Construction → Stepped
step_doctype initial legacy st = went (doctype legacy ∷ []) (record st { insertion_mode = before_html })
step_doctype insertion_mode legacy st = stops SecondDoctype 0

-- ---- A token

unfoldable pub step : Construction → Seen → Stepped
step st (tokens.doctype legacy) = step_doctype st.insertion_mode legacy (no_drop st)
step st (tokens.start_tag n attributes slash) = step_start n attributes slash (no_drop st)
step st (tokens.end_tag n) = step_end n (no_drop st)
step st (tokens.slice s) = step_bytes s st
step st (tokens.points ps) = at_front (step_bytes (encode_utf8_all ps) st)
step st (tokens.comment s) = step_comment st.insertion_mode s (no_drop st)

-- ---- The end of the page

-- the ends of the open elements, with the comments after body before the last of them, and those after html last
abbrev pub closing : List Element → List (List ℕ) → List (List ℕ) → List Event
closing [] inner last = map comment inner ++ map comment last
closing (e ∷ []) inner last = map comment inner ++ end_event e ∷ map comment last
closing (e ∷ f ∷ path) inner last = end_event e ∷ closing (f ∷ path) inner last

abbrev pub leave_page : InsertionMode → Construction → Stepped
leave_page after_body st = went [] st
leave_page after_html st = went [] st
leave_page insertion_mode st = if is_in_noscript insertion_mode st.path then stops Unclosed 0 else reach_body insertion_mode (leave_body after_html) st

-- all is made and closed; a page doesn't end inside title, textarea, style, iframe or script
unfoldable pub step_over : Construction → Stepped
step_over st = if is_in_text st.path then stops Cut 0 else close_all (leave_page st.insertion_mode st)
  where
    close_all : Stepped → Stepped
    close_all (went es at_end) = went (es ++ closing at_end.path at_end.comments_after_body at_end.comments_after_html) at_end
    close_all (stops rule n) = stops rule n

-- before the first token
abbrev pub first_state : Construction
first_state = record { insertion_mode = initial; path = []; drops_line_feed = false; comments_after_body = []; comments_after_html = [] }
