-- What is built from a state on is settled at the place of that state: the statement, and how it is composed.
use Rattle.std.proofs.Common.{◌≡◌, ℕ, true, false, ◌⊎◌, List, [], ◌∷◌, ◌++◌, refl, ap}
use Rattle.std.proofs.lemmas.Bool.{both_ways}
use Rattle.hm_base.specs.Walks.{Event, start, end, Element, pushed, pushes}
use Rattle.hm_elements.specs.Names.{html, head, body, noscript, p}
use Rattle.hm_elements.specs.Tables.{holds_text}
use Rattle.hm_elements.specs.Paths.{html_element, is_in_svg, is_in_raw, is_in_text}
use Rattle.hm_elements.specs.Settled.{is_html}
use Rattle.hm_elements.specs.Places.{AttributesAllowed, RootAllowed, CommentAllowed, SettledBody, SettledBeforeBody, SettledHead, SettledBeforeHead, SettledBeforeHtml, SettledPage}
use Rattle.hm_construction_laws.specs.Steps.{InsertionMode, initial, before_html, before_head, in_head, after_head, in_body, after_body, after_html, Construction, Stepped, went, stops, stepped_after_events, after_bytes, moved, under_html, under_head, under_body, make_html, make_head, close_head, make_body, reach_body, is_in_noscript}

-- head, or noscript in it
pub data HeadOuter : List Element → Type 0 where
  at_head : HeadOuter under_head
  at_noscript : HeadOuter (html_element noscript ∷ under_head)

-- a path in head
pub data HeadPath : List Element → Type 0 where
  outside_text : (path : List Element) → HeadOuter path → HeadPath path
  inside_text : (n : List ℕ) (path : List Element) → holds_text n ≡ true → HeadOuter path → HeadPath (html_element n ∷ path)

-- a path in body: an element of HTML stands in elements of HTML alone
pub data BodyPath : List Element → Type 0 where
  at_body : BodyPath under_body
  inner : (e : Element) (path : List Element) → is_html body e.name e.foreign ≡ false → (e.foreign ≡ false → is_in_svg path ≡ false) → BodyPath path → BodyPath (e ∷ path)

abbrev pub AtEnd : List Element → Type 0
AtEnd path = (path ≡ under_body) ⊎ (path ≡ html_element p ∷ under_body)

-- the path of an insertion mode
abbrev pub Shape : InsertionMode → List Element → Type 0
Shape initial path = path ≡ []
Shape before_html path = path ≡ []
Shape before_head path = path ≡ under_html
Shape in_head path = HeadPath path
Shape after_head path = path ≡ under_html
Shape in_body path = BodyPath path
Shape after_body path = AtEnd path
Shape after_html path = AtEnd path

-- what is built from an insertion mode on is settled there
abbrev pub SettledAt : InsertionMode → List Element → List Event → Type 0
SettledAt initial path w = SettledPage w
SettledAt before_html path w = SettledBeforeHtml w
SettledAt before_head path w = SettledBeforeHead w
SettledAt in_head path w = SettledHead path w
SettledAt after_head path w = SettledBeforeBody w
SettledAt in_body path w = SettledBody path w
SettledAt after_body path w = SettledBody path w
SettledAt after_html path w = SettledBody path w

-- comments that are kept until body and html are closed
abbrev pub AllComments : List (List ℕ) → Type 0
AllComments [] = Unit {0}
AllComments (s ∷ ss) = CommentAllowed [] s × AllComments ss

-- what is known of a state between two tokens
pub record Good (st : Construction) : Type 0 where
  pub shape : Shape st.insertion_mode st.path
  pub inner_comments : AllComments st.comments_after_body
  pub last_comments : AllComments st.comments_after_html
  pub keeps : is_in_raw st.path ≡ true → st.drops_line_feed ≡ false

-- what a step makes stands before what is settled after it
abbrev pub Leads : InsertionMode → List Element → Stepped → Type 0
Leads insertion_mode path (went es st) = Good st × ((w : List Event) → SettledAt st.insertion_mode st.path w → SettledAt insertion_mode path (pushes es w))
Leads insertion_mode path (stops rule n) = Unit {0}

pub pushes_append : (es fs w : List Event) → pushes (es ++ fs) w ≡ pushes es (pushes fs w)
pushes_append [] fs w = refl
pushes_append (e ∷ es) fs w = ap (pushed e) (pushes_append es fs w)

pub after_leads : (insertion_mode insertion_mode' : InsertionMode) (path path' : List Element) (es : List Event) (s : Stepped) → ((w : List Event) → SettledAt insertion_mode' path' w → SettledAt insertion_mode path (pushes es w)) → Leads insertion_mode' path' s → Leads insertion_mode path (stepped_after_events es s)
after_leads insertion_mode insertion_mode' path path' es (went fs st) put l = (l.0, λ w h. rw (pushes_append es fs w) (put (pushes fs w) (l.1 w h)))
after_leads insertion_mode insertion_mode' path path' es (stops rule n) put l = tt

pub later_leads : (insertion_mode : InsertionMode) (path : List Element) (n : ℕ) (s : Stepped) → Leads insertion_mode path s → Leads insertion_mode path (after_bytes n s)
later_leads insertion_mode path n (went fs st) l = l
later_leads insertion_mode path n (stops rule k) l = tt

pub no_attributes : AttributesAllowed []
no_attributes = record { few = refl; distinct = refl; names = refl; no_zero = refl; utf8 = refl }

root_made : (n : List ℕ) → RootAllowed n n false []
root_made n = record { name = refl; kind = refl; attributes_allowed = no_attributes }

pub html_leads : (path : List Element) (st : Construction) (more : Construction → Stepped) → Leads before_head under_html (more (moved st before_head under_html)) → Leads before_html path (make_html more st)
html_leads path st more l = after_leads before_html before_head path under_html (start html false [] ∷ []) (more (moved st before_head under_html)) (λ w h. (root_made html, h)) l

pub head_leads : (path : List Element) (st : Construction) (more : Construction → Stepped) → Leads in_head under_head (more (moved st in_head under_head)) → Leads before_head path (make_head more st)
head_leads path st more l = after_leads before_head in_head path under_head (start head false [] ∷ []) (more (moved st in_head under_head)) (λ w h. (root_made head, h)) l

pub closed_leads : (st : Construction) (more : Construction → Stepped) → Leads after_head under_html (more (moved st after_head under_html)) → Leads in_head under_head (close_head more st)
closed_leads st more l = after_leads in_head after_head under_head under_html (end head false ∷ []) (more (moved st after_head under_html)) (λ w h. (refl, h)) l

pub body_leads : (path : List Element) (st : Construction) (more : Construction → Stepped) → Leads in_body under_body (more (moved st in_body under_body)) → Leads after_head path (make_body more st)
body_leads path st more l = after_leads after_head in_body path under_body (start body false [] ∷ []) (more (moved st in_body under_body)) (λ w h. (root_made body, h)) l

outer_is : (path : List Element) → HeadOuter path → is_in_noscript in_head path ≡ false → path ≡ under_head
outer_is path at_head n = refl
outer_is path at_noscript n = cc

-- outside of texts and of noscript, the path in head is that of head
pub head_is : (path : List Element) → HeadPath path → is_in_text path ≡ false → is_in_noscript in_head path ≡ false → path ≡ under_head
head_is path (outside_text path' o) t n = outer_is path o n
head_is path (inside_text m path' h o) t n = absurd (both_ways (holds_text m) t h)

pub head_closes : (path : List Element) (st : Construction) (more : Construction → Stepped) → path ≡ under_head → Leads after_head under_html (more (moved st after_head under_html)) → Leads in_head path (close_head more st)
head_closes path st more e l = rw e (closed_leads st more l)

pub reach_body_leads : (insertion_mode : InsertionMode) (path : List Element) (st : Construction) (more : Construction → Stepped) → Shape insertion_mode path → is_in_text path ≡ false → is_in_noscript insertion_mode path ≡ false
    → Leads in_body under_body (more (moved st in_body under_body)) → (insertion_mode ≡ in_body → Leads in_body path (more st)) → Leads insertion_mode path (reach_body insertion_mode more st)
reach_body_leads initial path st more s t n l k = tt
reach_body_leads before_html path st more s t n l k = html_leads path st (make_head (close_head (make_body more))) (head_leads under_html (moved st before_head under_html) (close_head (make_body more)) (closed_leads (moved st in_head under_head) (make_body more) (body_leads under_html (moved st after_head under_html) more l)))
reach_body_leads before_head path st more s t n l k = head_leads path st (close_head (make_body more)) (closed_leads (moved st in_head under_head) (make_body more) (body_leads under_html (moved st after_head under_html) more l))
reach_body_leads in_head path st more s t n l k = head_closes path st (make_body more) (head_is path s t n) (body_leads under_html (moved st after_head under_html) more l)
reach_body_leads after_head path st more s t n l k = body_leads path st more l
reach_body_leads in_body path st more s t n l k = k refl
reach_body_leads after_body path st more s t n l k = tt
reach_body_leads after_html path st more s t n l k = tt
