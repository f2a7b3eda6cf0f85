-- The end of a page: what is still open is closed, and the kept comments stand after body and html.
use Rattle.std.proofs.Common.{◌≡◌, ℕ, Bool, true, false, cond, if◌then◌else◌, List, [], ◌∷◌, ◌++◌, map, refl, sym, ap, subst, inl, inr}
use Rattle.hm_base.specs.Walks.{Event, start, comment, end, Element, pushes}
use Rattle.hm_base.specs.declared.rules.Rule.TheVariants.{Unclosed}
use Rattle.hm_elements.specs.Names.{html, head, body}
use Rattle.hm_elements.specs.Paths.{html_element, is_in_text}
use Rattle.hm_elements.specs.Places.{SettledLast, SettledAfterBody, SettledBody, html_path}
use Rattle.hm_construction_laws.specs.Steps.{InsertionMode, initial, before_html, before_head, in_head, after_head, in_body, after_body, after_html, Construction, Stepped, went, stops, stepped_after_events, moved, under_html, under_body, make_head, close_head, make_body, reach_body, is_in_noscript, is_at_end, leave_body, closing, leave_page, step_over}
use Rattle.hm_construction_laws.proofs.Standing.{Shape, SettledAt, AtEnd, AllComments, Good, Leads, pushes_append}
use Rattle.hm_construction_laws.proofs.Tags.{is_past_body, reaches, allowed_on, frame_text}

-- ---- What closes

last_settled : (ss : List (List ℕ)) → AllComments ss → SettledLast (pushes (map comment ss) [])
last_settled [] a = tt
last_settled (s ∷ ss) a = (a.0, last_settled ss a.1)

after_settled : (ss last : List (List ℕ)) → AllComments ss → AllComments last → SettledAfterBody (pushes (map comment ss ++ end html false ∷ map comment last) [])
after_settled [] last a b = (refl, refl, last_settled last b)
after_settled (s ∷ ss) last a b = (allowed_on html_path s frame_text.1.0 a.0, after_settled ss last a.1 b)

frame_settled : (ss last : List (List ℕ)) → AllComments ss → AllComments last → SettledBody under_body (pushes (closing under_body ss last) [])
frame_settled ss last a b = (refl, after_settled ss last a b)

closing_settled : (path : List Element) (ss last : List (List ℕ)) → AtEnd path → AllComments ss → AllComments last → SettledBody path (pushes (closing path ss last) [])
closing_settled path ss last (inl e) a b = rw e (frame_settled ss last a b)
closing_settled path ss last (inr e) a b = rw e (refl, frame_settled ss last a b)

after_closes : (insertion_mode : InsertionMode) (path : List Element) (ss last : List (List ℕ)) → is_past_body insertion_mode ≡ true → Shape insertion_mode path → AllComments ss → AllComments last → SettledAt insertion_mode path (pushes (closing path ss last) [])
after_closes initial path ss last k s a b = cc
after_closes before_html path ss last k s a b = cc
after_closes before_head path ss last k s a b = cc
after_closes in_head path ss last k s a b = cc
after_closes after_head path ss last k s a b = cc
after_closes in_body path ss last k s a b = cc
after_closes after_body path ss last k s a b = closing_settled path ss last s a b
after_closes after_html path ss last k s a b = closing_settled path ss last s a b

-- ---- Where it leads

abbrev pub LeavesAfter : Stepped → Type 0
LeavesAfter (went es st) = is_past_body st.insertion_mode ≡ true
LeavesAfter (stops rule n) = Unit {0}

events_after : (es : List Event) (s : Stepped) → LeavesAfter s → LeavesAfter (stepped_after_events es s)
events_after es (went fs st) b = b
events_after es (stops rule n) b = tt

left_after : (st : Construction) → LeavesAfter (leave_body after_html st)
left_after st = by (is_at_end st.path)
  where
    by : (k : Bool) → LeavesAfter (cond k (went [] (record st { insertion_mode = after_html })) (stops Unclosed 0))
    by true = refl
    by false = tt

made_after : (st : Construction) → LeavesAfter (make_body (leave_body after_html) st)
made_after st = events_after (start body false [] ∷ []) (leave_body after_html (moved st in_body under_body)) (left_after (moved st in_body under_body))

closed_after : (st : Construction) → LeavesAfter (close_head (make_body (leave_body after_html)) st)
closed_after st = events_after (end head false ∷ []) (make_body (leave_body after_html) (moved st after_head under_html)) (made_after (moved st after_head under_html))

head_after : (st : Construction) → LeavesAfter (make_head (close_head (make_body (leave_body after_html))) st)
head_after st = let next = moved st in_head (html_element head ∷ under_html) in events_after (start head false [] ∷ []) (close_head (make_body (leave_body after_html)) next) (closed_after next)

pub reached_after : (insertion_mode : InsertionMode) (st : Construction) → LeavesAfter (reach_body insertion_mode (leave_body after_html) st)
reached_after initial st = tt
reached_after before_html st = let next = moved st before_head under_html in events_after (start html false [] ∷ []) (make_head (close_head (make_body (leave_body after_html))) next) (head_after next)
reached_after before_head st = head_after st
reached_after in_head st = closed_after st
reached_after after_head st = made_after st
reached_after in_body st = left_after st
reached_after after_body st = tt
reached_after after_html st = tt

unless_noscript : (insertion_mode : InsertionMode) (st : Construction) → Good st → Shape insertion_mode st.path → is_in_text st.path ≡ false → st.insertion_mode ≡ insertion_mode
    → Leads insertion_mode st.path (if is_in_noscript insertion_mode st.path then stops Unclosed 0 else reach_body insertion_mode (leave_body after_html) st) × LeavesAfter (if is_in_noscript insertion_mode st.path then stops Unclosed 0 else reach_body insertion_mode (leave_body after_html) st)
unless_noscript insertion_mode st g s t is = by (is_in_noscript insertion_mode st.path) refl
  where
    same : moved st insertion_mode st.path ≡ st
    same = let P : InsertionMode → Construction = λ q. moved st q st.path in ap P (sym is)

    by : (k : Bool) → is_in_noscript insertion_mode st.path ≡ k → Leads insertion_mode st.path (cond k (stops Unclosed 0) (reach_body insertion_mode (leave_body after_html) st)) × LeavesAfter (cond k (stops Unclosed 0) (reach_body insertion_mode (leave_body after_html) st))
    by true h = (tt, tt)
    by false h = (subst (λ x. Leads insertion_mode st.path (reach_body insertion_mode (leave_body after_html) x)) same (reaches insertion_mode after_html st st.path refl (g.inner_comments, g.last_comments) s t h), reached_after insertion_mode st)

page_leaves : (insertion_mode : InsertionMode) (st : Construction) → Good st → Shape insertion_mode st.path → is_in_text st.path ≡ false → st.insertion_mode ≡ insertion_mode → Leads insertion_mode st.path (leave_page insertion_mode st) × LeavesAfter (leave_page insertion_mode st)
page_leaves initial st g s t is = unless_noscript initial st g s t is
page_leaves before_html st g s t is = unless_noscript before_html st g s t is
page_leaves before_head st g s t is = unless_noscript before_head st g s t is
page_leaves in_head st g s t is = unless_noscript in_head st g s t is
page_leaves after_head st g s t is = unless_noscript after_head st g s t is
page_leaves in_body st g s t is = unless_noscript in_body st g s t is
page_leaves after_body st g s t is = ((g, λ w h. subst (λ q. SettledAt q st.path w) is h), rw is refl)
page_leaves after_html st g s t is = ((g, λ w h. subst (λ q. SettledAt q st.path w) is h), rw is refl)

-- what the end of the page makes is settled
abbrev pub SettlesAll : InsertionMode → List Element → Stepped → Type 0
SettlesAll insertion_mode path (went es st) = SettledAt insertion_mode path (pushes es [])
SettlesAll insertion_mode path (stops rule n) = Unit {0}

closes_all : (insertion_mode : InsertionMode) (path : List Element) (es : List Event) (st : Construction) → Leads insertion_mode path (went es st) → is_past_body st.insertion_mode ≡ true → SettledAt insertion_mode path (pushes (es ++ closing st.path st.comments_after_body st.comments_after_html) [])
closes_all insertion_mode path es st l b =
    rw (pushes_append es (closing st.path st.comments_after_body st.comments_after_html) []) (l.1 (pushes (closing st.path st.comments_after_body st.comments_after_html) []) (after_closes st.insertion_mode st.path st.comments_after_body st.comments_after_html b l.0.shape l.0.inner_comments l.0.last_comments))

pub over_settles : (st : Construction) → Good st → SettlesAll st.insertion_mode st.path (step_over st)
unfolding step_over
over_settles st g = by_text (is_in_text st.path) refl
  where
    by_leave : (s : Stepped) → leave_page st.insertion_mode st ≡ s → is_in_text st.path ≡ false → Leads st.insertion_mode st.path s → LeavesAfter s → SettlesAll st.insertion_mode st.path (step_over st)
    by_leave (went es next) e t l b = rw (t, e) (closes_all st.insertion_mode st.path es next l b)
    by_leave (stops rule n) e t l b = rw (t, e) tt

    by_text : (k : Bool) → is_in_text st.path ≡ k → SettlesAll st.insertion_mode st.path (step_over st)
    by_text true t = rw t tt
    by_text false t = let two = page_leaves st.insertion_mode st g g.shape t refl in by_leave (leave_page st.insertion_mode st) refl t two.0 two.1
