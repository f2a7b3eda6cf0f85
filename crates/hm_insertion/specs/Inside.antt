-- How the parts of a builder stand for a state and a walk.
use Rattle.std.specs.Prelude.{◌≡◌, ℕ, Bool, true, false, not, ◌&&◌, List, [], ◌∷◌, ◌++◌, map, codes, Option, Some, None, Result, Ok, Err, if◌then◌else◌}
use Rattle.hm_base.specs.Bytes.{is_space, all_pass, head_is}
use Rattle.hm_base.specs.Walks.{with_text, Event, doctype, start, text, comment, end, Element, path_after, begins_text}
use Rattle.hm_base.specs.declared.rules.Rule.{Rule}
use Rattle.hm_base.specs.declared.rules.Rule.TheVariants.{NoDoctype, AfterBody, TextHere, Unclosed}
use Rattle.hm_elements.specs.Names.{html, head, body, noscript}
use Rattle.hm_elements.specs.Paths.{html_element, is_in_raw, is_in_blank, outer}
use Rattle.hm_open_elements.specs.Moves.{without_void}
use Rattle.hm_tree.specs.Trees.{last_agrees, end_of}
use Rattle.hm_tree.specs.Rows.{is_text}
use Rattle.hm_construction_laws.specs.Steps as steps
use Rattle.hm_construction_laws.specs.Steps.{Construction, Stepped, under_html, under_head, under_body}
use Rattle.hm_elements.specs.Tables.{is_root}
use Rattle.hm_insertion.specs.Building.{Building, IsStepped, IsRefused, grown}
use Rattle.hm_insertion.specs.declared.fault.BuildFault.{BuildFault}
use Rattle.hm_insertion.specs.declared.insertion.HeadText.{HeadText}
use Rattle.hm_insertion.specs.declared.insertion.HeadText.TheVariants.{Title, Style, Script}
use Rattle.hm_insertion.specs.declared.insertion.BuilderMode.{BuilderMode}
use Rattle.hm_insertion.specs.declared.insertion.BuilderMode.TheVariants.{Initial, BeforeHtml, BeforeHead, InHead, AfterHead, InBody, AfterBody as PastBody, AfterHtml}
use Rattle.hm_insertion.specs.declared.parts.Parts.{Parts}

abbrev pub insertion_mode_of : BuilderMode → steps.InsertionMode
insertion_mode_of Initial = steps.initial
insertion_mode_of BeforeHtml = steps.before_html
insertion_mode_of BeforeHead = steps.before_head
insertion_mode_of (InHead here inner) = steps.in_head
insertion_mode_of AfterHead = steps.after_head
insertion_mode_of InBody = steps.in_body
insertion_mode_of PastBody = steps.after_body
insertion_mode_of AfterHtml = steps.after_html

abbrev pub text_name : HeadText → List ℕ
text_name Title = codes "title"
text_name Style = codes "style"
text_name Script = codes "script"

-- what is open in head
abbrev pub under_noscript : Bool → List Element
under_noscript true = html_element noscript ∷ under_head
under_noscript false = under_head

abbrev pub inside_head : Bool → Option HeadText → List Element
inside_head here None = under_noscript here
inside_head here (Some inner) = html_element (text_name inner) ∷ under_noscript here

-- the open elements, of which the path knows only those of a page in its body
abbrev pub open_path : BuilderMode → List Element → List Element
open_path Initial path = []
open_path BeforeHtml path = []
open_path BeforeHead path = under_html
open_path (InHead here inner) path = inside_head here inner
open_path AfterHead path = under_html
open_path InBody path = path
open_path PastBody path = path
open_path AfterHtml path = path

abbrev pub state_of : Parts → Construction
state_of p = record { insertion_mode = insertion_mode_of p.insertion_mode; path = open_path p.insertion_mode p.path; drops_line_feed = p.drops_line_feed; comments_after_body = p.comments_after_body.items; comments_after_html = p.comments_after_html.items }

abbrev pub building_of : Parts → Building
building_of p = record { state = state_of p; walk = p.maker }

-- no element of SVG is called html, head or body
abbrev pub has_no_svg_root : List Element → Bool
has_no_svg_root [] = true
has_no_svg_root (e ∷ path) = not (e.foreign && is_root e.name) && has_no_svg_root path

-- before the body only html and body are on the path
abbrev pub IsFresh : BuilderMode → List Element → Type 0
IsFresh InBody path = has_no_svg_root path ≡ true
IsFresh PastBody path = has_no_svg_root path ≡ true
IsFresh AfterHtml path = has_no_svg_root path ≡ true
IsFresh insertion_mode path = path ≡ under_body

-- no two texts touch
abbrev pub is_apart : List Event → Bool
is_apart [] = true
is_apart (doctype legacy ∷ w) = is_apart w
is_apart (start n foreign attributes ∷ w) = is_apart w
is_apart (text s raw ∷ w) = not (begins_text w) && is_apart w
is_apart (comment s ∷ w) = is_apart w
is_apart (end n foreign ∷ w) = is_apart w

-- the events so far, with these elements open after them
pub record IsWalkTo (w : List Event) (path : List Element) : Type 0 where
  pub leads : path_after [] w ≡ path
  pub same_raw : last_agrees w (is_in_raw path) ≡ true
  pub apart : is_apart w ≡ true

-- what is true of the parts between two tokens
pub record IsKept (p : Parts) : Type 0 where
  pub walk : IsWalkTo p.maker (open_path p.insertion_mode p.path)
  pub fresh : IsFresh p.insertion_mode p.path

-- each byte as a text of its own
abbrev pub each_byte : List ℕ → Bool → List Event
each_byte s raw = map (λ c. text (c ∷ []) raw) s

-- no event is a text
abbrev pub has_no_text : List Event → Bool
has_no_text [] = true
has_no_text (e ∷ w) = not (is_text e) && has_no_text w

-- what is made up to body
abbrev pub body_made : List Event
body_made = start body false [] ∷ []

abbrev pub head_closed : List Event
head_closed = end head false ∷ body_made

abbrev pub head_made : List Event
head_made = start head false [] ∷ head_closed

abbrev pub html_made : List Event
html_made = start html false [] ∷ head_made

abbrev pub missing : BuilderMode → List Event
missing BeforeHtml = html_made
missing BeforeHead = head_made
missing (InHead here inner) = head_closed
missing AfterHead = body_made
missing insertion_mode = []

-- the elements that are open where the missing ones can be made
abbrev pub CanMake : BuilderMode → List Element → Type 0
CanMake BeforeHtml path = path ≡ []
CanMake BeforeHead path = path ≡ under_html
CanMake (InHead here inner) path = path ≡ under_head
CanMake AfterHead path = path ≡ under_html
CanMake insertion_mode path = Unit {0}

-- whitespace stands where it is
abbrev pub keeps_space : BuilderMode → Bool
keeps_space Initial = false
keeps_space BeforeHtml = false
keeps_space BeforeHead = false
keeps_space insertion_mode = true

-- why a text that isn't whitespace is refused
abbrev pub text_rule : BuilderMode → List Element → Option Rule
text_rule Initial path = Some NoDoctype
text_rule (InHead true None) path = Some TextHere
text_rule InBody path = if is_in_blank path then Some TextHere else None
text_rule PastBody path = Some AfterBody
text_rule AfterHtml path = Some AfterBody
text_rule insertion_mode path = None

-- the open elements once all is made up to body
abbrev pub body_path : BuilderMode → List Element → List Element
body_path InBody path = path
body_path insertion_mode path = under_body

-- a state in which no line feed is dropped
abbrev pub at_state : BuilderMode → List Element → List (List ℕ) → List (List ℕ) → Construction
at_state insertion_mode path inner last = record { insertion_mode = insertion_mode_of insertion_mode; path = path; drops_line_feed = false; comments_after_body = inner; comments_after_html = last }

-- a text cut where its first byte stands that isn't whitespace
pub record IsCut (s blank rest : List ℕ) : Type 0 where
  pub whole : s ≡ blank ++ rest
  pub spaces : all_pass is_space blank ≡ true
  pub stops : head_is is_space rest ≡ false

-- a walk with whitespace after it, where that stands
abbrev pub with_blank : BuilderMode → List Event → List ℕ → List Event
with_blank insertion_mode w s = if keeps_space insertion_mode then with_text w s false else w

-- whitespace byte by byte, where it stands
abbrev pub kept_bytes : Bool → List ℕ → Bool → List Event
kept_bytes true s raw = each_byte s raw
kept_bytes false s raw = []

-- whitespace, what is missing, and a text of the body
abbrev pub mixed_events : BuilderMode → List ℕ → List ℕ → List Event
mixed_events insertion_mode front s = kept_bytes (keeps_space insertion_mode) front false ++ (missing insertion_mode ++ each_byte s false)

-- a step was carried out
pub record IsDone (step : Stepped) (old new : Parts) : Type 0 where
  pub kept : IsKept new
  pub stepped : IsStepped step (building_of old) (building_of new)

-- The answer to a step: it was carried out, or is refused by the rule of the fault.
abbrev pub Takes : {A : Type 0} → Stepped → Result A BuildFault → Parts → Parts → Type 0
Takes step (Ok done) old new = IsDone step old new
Takes step (Err fault) old new = IsRefused step fault

-- these events, which make what is missing, are appended to the walk
pub record IsPutAfter (es : List Event) (old new : Parts) : Type 0 where
  pub kept : IsKept new
  pub walk : new.maker ≡ grown old.maker es
  pub insertion_mode : new.insertion_mode ≡ InBody
  pub path : new.path ≡ body_path old.insertion_mode old.path
  pub drops : new.drops_line_feed ≡ old.drops_line_feed
  pub inner : new.comments_after_body ≡ old.comments_after_body
  pub last : new.comments_after_html ≡ old.comments_after_html

-- the insertion modes in which the open elements are those of the body's path
abbrev pub HasBodyPath : BuilderMode → Type 0
HasBodyPath InBody = Unit {0}
HasBodyPath PastBody = Unit {0}
HasBodyPath AfterHtml = Unit {0}
HasBodyPath insertion_mode = ⊥

-- head made and closed
abbrev pub only_head : List Event
only_head = start head false [] ∷ end head false ∷ []

abbrev pub html_then_head : List Event
html_then_head = start html false [] ∷ only_head

abbrev pub head_ended : BuilderMode → List Event
head_ended BeforeHtml = html_then_head
head_ended BeforeHead = only_head
head_ended (InHead here inner) = end head false ∷ []
head_ended insertion_mode = []

-- the insertion modes in which html, head or body is missing, and nothing is open in head
abbrev pub IsUnbegun : BuilderMode → Type 0
IsUnbegun BeforeHtml = Unit {0}
IsUnbegun BeforeHead = Unit {0}
IsUnbegun (InHead false None) = Unit {0}
IsUnbegun AfterHead = Unit {0}
IsUnbegun insertion_mode = ⊥

-- something is open in head
abbrev pub IsInner : Bool → Option HeadText → Type 0
IsInner true inner = Unit {0}
IsInner false (Some inner) = Unit {0}
IsInner false None = ⊥

-- noscript is open around the innermost element
abbrev pub is_noscript_around : Bool → Option HeadText → Bool
is_noscript_around here (Some inner) = here
is_noscript_around here None = false

-- what is true of the parts between two tokens, unless a token was refused
abbrev pub IsSound : Bool → Parts → Type 0
IsSound true p = Unit {0}
IsSound false p = IsKept p

-- the insertion modes in which a body can be reached
abbrev pub CanReach : BuilderMode → Type 0
CanReach InBody = Unit {0}
CanReach insertion_mode = IsUnbegun insertion_mode

-- why a page doesn't end here
abbrev pub end_rule : BuilderMode → List Element → Option Rule
end_rule Initial path = Some NoDoctype
end_rule (InHead true None) path = Some Unclosed
end_rule InBody path = if not (steps.is_at_end path) then Some Unclosed else None
end_rule insertion_mode path = None

-- an element has opened in the body, and is the innermost one of the walk; a void one isn't on the path
pub record IsOpened (n : List ℕ) (foreign : Bool) (p : Parts) : Type 0 where
  pub insertion_mode : p.insertion_mode ≡ InBody
  pub leads : path_after [] p.maker ≡ record { name = n; foreign = foreign } ∷ outer (path_after [] p.maker)
  pub walk : IsWalkTo p.maker (path_after [] p.maker)
  pub path : p.path ≡ without_void (path_after [] p.maker)
  pub roots : has_no_svg_root (path_after [] p.maker) ≡ true
  pub all : p.drops_line_feed ≡ false

-- the element has closed at once, or stays open
pub record IsEntered (slash : Bool) (old new : Parts) : Type 0 where
  pub kept : IsKept new
  pub insertion_mode : new.insertion_mode ≡ InBody
  pub walk : new.maker ≡ old.maker ++ (if steps.closes_at_once slash (path_after [] old.maker) then end_of (path_after [] old.maker) else [])
  pub path : new.path ≡ (if steps.closes_at_once slash (path_after [] old.maker) then outer (path_after [] old.maker) else path_after [] old.maker)
  pub drops : new.drops_line_feed ≡ (if steps.closes_at_once slash (path_after [] old.maker) then false else steps.drops_after (path_after [] old.maker))
  pub inner : new.comments_after_body ≡ old.comments_after_body
  pub last : new.comments_after_html ≡ old.comments_after_html
