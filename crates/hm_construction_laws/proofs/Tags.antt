-- Tags, comments and doctypes in every insertion mode.
use Rattle.std.proofs.Common.{◌≡◌, ℕ, Bool, true, false, cond, ◌||◌, ◌&&◌, not, if◌then◌else◌, List, [], ◌∷◌, ◌++◌, bytes_eq, refl, sym, ◌∙◌, ap, subst, inl, inr}
use Rattle.std.proofs.lemmas.Bool.{and_parts, not-true, both_ways}
use Rattle.hm_base.specs.Forms.{is_tag_name}
use Rattle.hm_base.specs.Walks.{Event, end, Attribute, Element}
use Rattle.hm_base.specs.declared.rules.Rule.TheVariants.{RefusedName, SecondRoot, AfterBody, Unclosed}
use Rattle.hm_elements.specs.Names.{is_among, html, head, body, p}
use Rattle.hm_elements.specs.Tables.{is_refused, is_raw, raw_names, is_rcdata, rcdata_names, holds_text}
use Rattle.hm_elements.specs.Paths.{html_element, is_in_svg, is_in_raw, is_in_text}
use Rattle.hm_elements.specs.Places.{AttributesAllowed, RootAllowed, CommentAllowed}
use Rattle.hm_elements.proofs.TableTools.{same_bytes}
use Rattle.hm_construction_laws.specs.Steps.{InsertionMode, initial, before_html, before_head, in_head, after_head, in_body, after_body, after_html, Construction, Stepped, went, stops, moved, no_drop, under_html, under_head, under_body, make_head, close_head, reach_body, is_in_noscript, start_in_body, start_in_head, start_inside, open_html, open_head_here, open_head, open_body_here, open_body, html_start, is_outside, outside_rule, step_start, end_current, end_head, is_at_end, leave_body, end_body, end_html, end_inside, html_end, end_outside, step_end, step_comment, step_doctype}
use Rattle.hm_construction_laws.proofs.Standing.{HeadOuter, at_head, at_noscript, HeadPath, outside_text, inside_text, at_body, Shape, SettledAt, AtEnd, AllComments, Good, Leads, html_leads, head_leads, closed_leads, head_is, head_closes, reach_body_leads}
use Rattle.hm_construction_laws.proofs.Starts.{CommentsGood, start_leads}
use Rattle.hm_construction_laws.proofs.Ends.{before_tag, good_on, end_leads, current_leads}
use Rattle.hm_construction_laws.proofs.Heads.{after_head_leads, in_head_leads}

-- ---- Start tags

pub frame_text : (is_in_text under_head ≡ false) × ((is_in_text under_html ≡ false) × (is_in_text under_body ≡ false))
unfolding holds_text is_raw raw_names is_rcdata rcdata_names is_among
frame_text = (refl, (refl, refl))

root_written : (n : List ℕ) (attributes : List Attribute) → AttributesAllowed attributes → RootAllowed n n false attributes
root_written n attributes a = record { name = refl; kind = refl; attributes_allowed = a }

head_here : (attributes : List Attribute) (st : Construction) (old path : List Element) → CommentsGood st → AttributesAllowed attributes → Leads before_head path (open_head_here attributes (before_tag st before_head old))
head_here attributes st old path c a = (record { shape = outside_text under_head at_head; inner_comments = c.0; last_comments = c.1; keeps = λ h. refl }, λ w h. (root_written head attributes a, h))

body_here : (attributes : List Attribute) (st : Construction) (old path : List Element) → CommentsGood st → AttributesAllowed attributes → Leads after_head path (open_body_here attributes (before_tag st after_head old))
body_here attributes st old path c a = (record { shape = at_body; inner_comments = c.0; last_comments = c.1; keeps = λ h. refl }, λ w h. (root_written body attributes a, h))

html_opens : (insertion_mode : InsertionMode) (attributes : List Attribute) (st : Construction) (path : List Element) → CommentsGood st → AttributesAllowed attributes → Leads insertion_mode path (open_html insertion_mode attributes (before_tag st insertion_mode path))
html_opens initial attributes st path c a = tt
html_opens before_html attributes st path c a = (record { shape = refl; inner_comments = c.0; last_comments = c.1; keeps = λ h. refl }, λ w h. (root_written html attributes a, h))
html_opens before_head attributes st path c a = tt
html_opens in_head attributes st path c a = tt
html_opens after_head attributes st path c a = tt
html_opens in_body attributes st path c a = tt
html_opens after_body attributes st path c a = tt
html_opens after_html attributes st path c a = tt

head_opens : (insertion_mode : InsertionMode) (attributes : List Attribute) (st : Construction) (path : List Element) → CommentsGood st → AttributesAllowed attributes → Leads insertion_mode path (open_head insertion_mode attributes (before_tag st insertion_mode path))
head_opens initial attributes st path c a = tt
head_opens before_html attributes st path c a = html_leads path (before_tag st before_html path) (open_head_here attributes) (head_here attributes st under_html under_html c a)
head_opens before_head attributes st path c a = head_here attributes st path path c a
head_opens in_head attributes st path c a = tt
head_opens after_head attributes st path c a = tt
head_opens in_body attributes st path c a = tt
head_opens after_body attributes st path c a = tt
head_opens after_html attributes st path c a = tt

body_opens_in_head : (attributes : List Attribute) (st : Construction) (path : List Element) → CommentsGood st → AttributesAllowed attributes → HeadPath path → is_in_text path ≡ false
    → Leads in_head path (if is_in_noscript in_head path then stops SecondRoot 0 else close_head (open_body_here attributes) (before_tag st in_head path))
body_opens_in_head attributes st path c a on_path t = by (is_in_noscript in_head path) refl
  where
    by : (b : Bool) → is_in_noscript in_head path ≡ b → Leads in_head path (cond b (stops SecondRoot 0) (close_head (open_body_here attributes) (before_tag st in_head path)))
    by true h = tt
    by false h = head_closes path (before_tag st in_head path) (open_body_here attributes) (head_is path on_path t h) (body_here attributes st under_html under_html c a)

body_opens : (insertion_mode : InsertionMode) (attributes : List Attribute) (st : Construction) (path : List Element) → CommentsGood st → AttributesAllowed attributes → Shape insertion_mode path → is_in_text path ≡ false → Leads insertion_mode path (open_body insertion_mode attributes (before_tag st insertion_mode path))
body_opens initial attributes st path c a s t = tt
body_opens before_html attributes st path c a s t =
    html_leads path (before_tag st before_html path) (make_head (close_head (open_body_here attributes))) (head_leads under_html (before_tag st before_head under_html) (close_head (open_body_here attributes)) (closed_leads (before_tag st in_head under_head) (open_body_here attributes) (body_here attributes st under_html under_html c a)))
body_opens before_head attributes st path c a s t = head_leads path (before_tag st before_head path) (close_head (open_body_here attributes)) (closed_leads (before_tag st in_head under_head) (open_body_here attributes) (body_here attributes st under_html under_html c a))
body_opens in_head attributes st path c a s t = body_opens_in_head attributes st path c a s t
body_opens after_head attributes st path c a s t = body_here attributes st path path c a
body_opens in_body attributes st path c a s t = tt
body_opens after_body attributes st path c a s t = tt
body_opens after_html attributes st path c a s t = tt

inside_starts : (insertion_mode : InsertionMode) (n : List ℕ) (attributes : List Attribute) (slash : Bool) (st : Construction) (path : List Element) → CommentsGood st → is_tag_name n ≡ true → AttributesAllowed attributes → is_refused n ≡ false → is_outside insertion_mode ≡ false → Shape insertion_mode path → is_in_text path ≡ false
    → Leads insertion_mode path (start_inside insertion_mode n attributes slash (before_tag st insertion_mode path))
inside_starts initial n attributes slash st path c form a known o s t = cc
inside_starts before_html n attributes slash st path c form a known o s t =
    html_leads path (before_tag st before_html path) (make_head (start_in_head n attributes slash)) (head_leads under_html (before_tag st before_head under_html) (start_in_head n attributes slash) (in_head_leads n attributes slash st under_head c form a known (outside_text under_head at_head) frame_text.0))
inside_starts before_head n attributes slash st path c form a known o s t = head_leads path (before_tag st before_head path) (start_in_head n attributes slash) (in_head_leads n attributes slash st under_head c form a known (outside_text under_head at_head) frame_text.0)
inside_starts in_head n attributes slash st path c form a known o s t = in_head_leads n attributes slash st path c form a known s t
inside_starts after_head n attributes slash st path c form a known o s t = after_head_leads n attributes slash st path c form a
inside_starts in_body n attributes slash st path c form a known o s t = start_leads n attributes slash st path c form a s
inside_starts after_body n attributes slash st path c form a known o s t = cc
inside_starts after_html n attributes slash st path c form a known o s t = cc

html_starts : (insertion_mode : InsertionMode) (n : List ℕ) (attributes : List Attribute) (slash : Bool) (st : Construction) (path : List Element) → CommentsGood st → is_tag_name n ≡ true → AttributesAllowed attributes → is_outside insertion_mode ≡ false → Shape insertion_mode path → is_in_text path ≡ false
    → Leads insertion_mode path (html_start n attributes slash (before_tag st insertion_mode path))
html_starts insertion_mode n attributes slash st path c form a o s t = by (is_refused n) (bytes_eq n html) (bytes_eq n head) (bytes_eq n body) refl
  where
    by : (r h k b : Bool) → is_refused n ≡ r
        → Leads insertion_mode path (cond r (stops RefusedName 0) (cond h (open_html insertion_mode attributes (before_tag st insertion_mode path)) (cond k (open_head insertion_mode attributes (before_tag st insertion_mode path)) (cond b (open_body insertion_mode attributes (before_tag st insertion_mode path)) (start_inside insertion_mode n attributes slash (before_tag st insertion_mode path))))))
    by true h k b e = tt
    by false true k b e = html_opens insertion_mode attributes st path c a
    by false false true b e = head_opens insertion_mode attributes st path c a
    by false false false true e = body_opens insertion_mode attributes st path c a s t
    by false false false false e = inside_starts insertion_mode n attributes slash st path c form a e o s t

-- svg is open in body alone
head_no_svg : (path : List Element) → HeadPath path → is_in_svg path ≡ false
head_no_svg path (outside_text path' o) = by path o
  where
    by : (q : List Element) → HeadOuter q → is_in_svg q ≡ false
    by q at_head = refl
    by q at_noscript = refl
head_no_svg path (inside_text m rest h o) = refl

svg_starts : (insertion_mode : InsertionMode) (n : List ℕ) (attributes : List Attribute) (slash : Bool) (st : Construction) (path : List Element) → CommentsGood st → is_tag_name n ≡ true → AttributesAllowed attributes → is_outside insertion_mode ≡ false → Shape insertion_mode path → is_in_svg path ≡ true
    → Leads insertion_mode path (start_in_body n attributes slash (before_tag st insertion_mode path))
svg_starts initial n attributes slash st path c form a o s v = cc
svg_starts before_html n attributes slash st path c form a o s v = let k : is_in_svg [] ≡ true = rw s at v in cc
svg_starts before_head n attributes slash st path c form a o s v = let k : is_in_svg under_html ≡ true = rw s at v in cc
svg_starts in_head n attributes slash st path c form a o s v = absurd (both_ways (is_in_svg path) (head_no_svg path s) v)
svg_starts after_head n attributes slash st path c form a o s v = let k : is_in_svg under_html ≡ true = rw s at v in cc
svg_starts in_body n attributes slash st path c form a o s v = start_leads n attributes slash st path c form a s
svg_starts after_body n attributes slash st path c form a o s v = cc
svg_starts after_html n attributes slash st path c form a o s v = cc

pub starts_lead : (insertion_mode : InsertionMode) (n : List ℕ) (attributes : List Attribute) (slash : Bool) (st : Construction) (path : List Element) → CommentsGood st → is_tag_name n ≡ true → AttributesAllowed attributes → Shape insertion_mode path → is_in_text path ≡ false
    → Leads insertion_mode path (step_start n attributes slash (before_tag st insertion_mode path))
unfolding step_start
starts_lead insertion_mode n attributes slash st path c form a s t = by (is_outside insertion_mode) (is_in_svg path) refl refl
  where
    by : (o v : Bool) → is_outside insertion_mode ≡ o → is_in_svg path ≡ v → Leads insertion_mode path (cond o (stops (outside_rule insertion_mode) 0) (cond v (start_in_body n attributes slash (before_tag st insertion_mode path)) (html_start n attributes slash (before_tag st insertion_mode path))))
    by true v eo ev = tt
    by false true eo ev = svg_starts insertion_mode n attributes slash st path c form a eo s ev
    by false false eo ev = html_starts insertion_mode n attributes slash st path c form a eo s t

-- ---- End tags

head_closed : (st : Construction) (old : List Element) → CommentsGood st → Leads in_head under_head (went (end head false ∷ []) (moved (before_tag st in_head old) after_head under_html))
head_closed st old c = (record { shape = refl; inner_comments = c.0; last_comments = c.1; keeps = λ h. refl }, λ w h. (refl, h))

ends_head : (insertion_mode : InsertionMode) (st : Construction) (path : List Element) → CommentsGood st → Shape insertion_mode path → is_in_text path ≡ false → is_in_noscript insertion_mode path ≡ false → Leads insertion_mode path (end_head insertion_mode (before_tag st insertion_mode path))
ends_head initial st path c s t n = tt
ends_head before_html st path c s t n =
    let close : Construction → Stepped = λ here. went (end head false ∷ []) (moved here after_head under_html) in
    html_leads path (before_tag st before_html path) (make_head close) (head_leads under_html (before_tag st before_head under_html) close (head_closed st under_head c))
ends_head before_head st path c s t n =
    let close : Construction → Stepped = λ here. went (end head false ∷ []) (moved here after_head under_html) in
    head_leads path (before_tag st before_head path) close (head_closed st under_head c)
ends_head in_head st path c s t n = rw (head_is path s t n) (head_closed st under_head c)
ends_head after_head st path c s t n = tt
ends_head in_body st path c s t n = tt
ends_head after_body st path c s t n = tt
ends_head after_html st path c s t n = tt

-- the path of a page that may end
abbrev is_named : List ℕ → Element → Bool
is_named n e = not e.foreign && bytes_eq e.name n

named_is : (n : List ℕ) (e : Element) → is_named n e ≡ true → e ≡ html_element n
named_is n e h =
    let two = and_parts (not e.foreign) (bytes_eq e.name n) h in
    let f : e.foreign ≡ false = not-true e.foreign two.0 in
    let P : Bool → Element = λ b. record { name = e.name; foreign = b } in
    let N : List ℕ → Element = λ m. record { name = m; foreign = false } in
    ap P f ∙ ap N (same_bytes e.name n two.1)

pub at_end_is : (path : List Element) → is_at_end path ≡ true → AtEnd path
unfolding is_at_end
at_end_is [] h = cc
at_end_is (e ∷ []) h = cc
at_end_is (e ∷ f ∷ []) h =
    let two = and_parts (is_named body e) (is_named html f) h in
    inl (rw (named_is body e two.0, named_is html f two.1) refl)
at_end_is (e ∷ f ∷ g ∷ []) h =
    let two = and_parts (is_named p e) (is_named body f && is_named html g) h in
    let more = and_parts (is_named body f) (is_named html g) two.1 in
    inr (rw (named_is p e two.0, named_is body f more.0, named_is html g more.1) refl)
at_end_is (e ∷ f ∷ g ∷ k ∷ path) h = cc

-- an insertion mode after body
abbrev pub is_past_body : InsertionMode → Bool
is_past_body after_body = true
is_past_body after_html = true
is_past_body insertion_mode = false

end_no_raw : (path : List Element) → AtEnd path → is_in_raw path ≡ false
unfolding is_raw raw_names is_among
end_no_raw path (inl e) = rw e refl
end_no_raw path (inr e) = rw e refl

after_good : (insertion_mode : InsertionMode) (st : Construction) (path : List Element) → is_past_body insertion_mode ≡ true → CommentsGood st → AtEnd path → Good (record (moved st in_body path) { insertion_mode = insertion_mode })
after_good initial st path b c e = cc
after_good before_html st path b c e = cc
after_good before_head st path b c e = cc
after_good in_head st path b c e = cc
after_good after_head st path b c e = cc
after_good in_body st path b c e = cc
after_good after_body st path b c e = record { shape = e; inner_comments = c.0; last_comments = c.1; keeps = λ h. absurd (both_ways (is_in_raw path) (end_no_raw path e) h) }
after_good after_html st path b c e = record { shape = e; inner_comments = c.0; last_comments = c.1; keeps = λ h. absurd (both_ways (is_in_raw path) (end_no_raw path e) h) }

after_settled : (insertion_mode : InsertionMode) (path : List Element) (w : List Event) → is_past_body insertion_mode ≡ true → SettledAt insertion_mode path w → SettledAt in_body path w
after_settled initial path w b h = cc
after_settled before_html path w b h = cc
after_settled before_head path w b h = cc
after_settled in_head path w b h = cc
after_settled after_head path w b h = cc
after_settled in_body path w b h = cc
after_settled after_body path w b h = h
after_settled after_html path w b h = h

pub leaves : (insertion_mode : InsertionMode) (st : Construction) (path : List Element) → is_past_body insertion_mode ≡ true → CommentsGood st → Leads in_body path (leave_body insertion_mode (moved st in_body path))
leaves insertion_mode st path b c = by (is_at_end path) refl
  where
    by : (k : Bool) → is_at_end path ≡ k → Leads in_body path (cond k (went [] (record (moved st in_body path) { insertion_mode = insertion_mode })) (stops Unclosed 0))
    by true h = (after_good insertion_mode st path b c (at_end_is path h), λ w s. after_settled insertion_mode path w b s)
    by false h = tt

pub reaches : (insertion_mode : InsertionMode) (next : InsertionMode) (st : Construction) (path : List Element) → is_past_body next ≡ true → CommentsGood st → Shape insertion_mode path → is_in_text path ≡ false → is_in_noscript insertion_mode path ≡ false → Leads insertion_mode path (reach_body insertion_mode (leave_body next) (moved st insertion_mode path))
reaches insertion_mode next st path b c s t n =
    reach_body_leads insertion_mode path (moved st insertion_mode path) (leave_body next) s t n (leaves next st under_body b c)
    (λ e. let P : InsertionMode → Type 0 = λ q. Leads in_body path (leave_body next (moved st q path)) in subst P (sym e) (leaves next st path b c))

ends_html : (insertion_mode : InsertionMode) (st : Construction) (path : List Element) → CommentsGood st → Shape insertion_mode path → is_in_text path ≡ false → is_in_noscript insertion_mode path ≡ false → Leads insertion_mode path (end_html insertion_mode (before_tag st insertion_mode path))
ends_html initial st path c s t n = reaches initial after_html (no_drop st) path refl c s t n
ends_html before_html st path c s t n = reaches before_html after_html (no_drop st) path refl c s t n
ends_html before_head st path c s t n = reaches before_head after_html (no_drop st) path refl c s t n
ends_html in_head st path c s t n = reaches in_head after_html (no_drop st) path refl c s t n
ends_html after_head st path c s t n = reaches after_head after_html (no_drop st) path refl c s t n
ends_html in_body st path c s t n = reaches in_body after_html (no_drop st) path refl c s t n
ends_html after_body st path c s t n = (record { shape = s; inner_comments = c.0; last_comments = c.1; keeps = λ h. refl }, λ w h. h)
ends_html after_html st path c s t n = reaches after_html after_html (no_drop st) path refl c s t n

ends_inside : (insertion_mode : InsertionMode) (n : List ℕ) (st : Construction) (path : List Element) → CommentsGood st → Shape insertion_mode path → bytes_eq n body ≡ false → Leads insertion_mode path (end_inside insertion_mode n (before_tag st insertion_mode path))
ends_inside initial n st path c s other = tt
ends_inside before_html n st path c s other = tt
ends_inside before_head n st path c s other = tt
ends_inside in_head n st path c s other = tt
ends_inside after_head n st path c s other = tt
ends_inside in_body n st path c s other = end_leads n st path c other s
ends_inside after_body n st path c s other = tt
ends_inside after_html n st path c s other = tt

html_ends : (insertion_mode : InsertionMode) (n : List ℕ) (st : Construction) (path : List Element) → CommentsGood st → Shape insertion_mode path → is_in_text path ≡ false → is_in_noscript insertion_mode path ≡ false → Leads insertion_mode path (html_end n (before_tag st insertion_mode path))
html_ends insertion_mode n st path c s t out = by (bytes_eq n head) (bytes_eq n body) (bytes_eq n html) refl
  where
    by : (k b h : Bool) → bytes_eq n body ≡ b → Leads insertion_mode path (cond k (end_head insertion_mode (before_tag st insertion_mode path)) (cond b (end_body insertion_mode (before_tag st insertion_mode path)) (cond h (end_html insertion_mode (before_tag st insertion_mode path)) (end_inside insertion_mode n (before_tag st insertion_mode path)))))
    by true b h e = ends_head insertion_mode st path c s t out
    by false true h e = reaches insertion_mode after_body (no_drop st) path refl c s t out
    by false false true e = ends_html insertion_mode st path c s t out
    by false false false e = ends_inside insertion_mode n st path c s e

outside_ends : (insertion_mode : InsertionMode) (n : List ℕ) (st : Construction) (path : List Element) → CommentsGood st → Shape insertion_mode path → Leads insertion_mode path (end_outside insertion_mode n (before_tag st insertion_mode path))
outside_ends initial n st path c s = tt
outside_ends before_html n st path c s = tt
outside_ends before_head n st path c s = tt
outside_ends in_head n st path c s = tt
outside_ends after_head n st path c s = tt
outside_ends in_body n st path c s = tt
outside_ends after_body n st path c s = by (bytes_eq n html)
  where
    by : (b : Bool) → Leads after_body path (cond b (end_html after_body (before_tag st after_body path)) (stops AfterBody 0))
    by true = (record { shape = s; inner_comments = c.0; last_comments = c.1; keeps = λ h. refl }, λ w h. h)
    by false = tt
outside_ends after_html n st path c s = tt

pub ends_lead : (insertion_mode : InsertionMode) (n : List ℕ) (st : Construction) (path : List Element) → CommentsGood st → Shape insertion_mode path → Leads insertion_mode path (step_end n (before_tag st insertion_mode path))
unfolding step_end
ends_lead insertion_mode n st path c s = by (is_in_text path) (is_outside insertion_mode) (is_in_svg path) (is_in_noscript insertion_mode path) refl refl refl
  where
    by : (t o v k : Bool) → is_in_text path ≡ t → is_in_svg path ≡ v → is_in_noscript insertion_mode path ≡ k
        → Leads insertion_mode path (cond t (end_current n (before_tag st insertion_mode path) path) (cond o (end_outside insertion_mode n (before_tag st insertion_mode path)) (cond (v || k) (end_current n (before_tag st insertion_mode path) path) (html_end n (before_tag st insertion_mode path)))))
    by true o v k et ev ek = current_leads n st insertion_mode path c s (inl et)
    by false true v k et ev ek = outside_ends insertion_mode n st path c s
    by false false true k et ev ek = current_leads n st insertion_mode path c s (inr (inl ev))
    by false false false true et ev ek = current_leads n st insertion_mode path c s (inr (inr ek))
    by false false false false et ev ek = html_ends insertion_mode n st path c s et ek

-- ---- Comments and doctypes

comments_append : (ss : List (List ℕ)) (s : List ℕ) → AllComments ss → CommentAllowed [] s → AllComments (ss ++ s ∷ [])
comments_append [] s a b = (b, tt)
comments_append (t ∷ ss) s a b = (a.0, comments_append ss s a.1 b)

-- a comment may stand wherever it isn't in a text
pub allowed_on : (path : List Element) (s : List ℕ) → is_in_text path ≡ false → CommentAllowed [] s → CommentAllowed path s
allowed_on path s t a = record { form = a.form; no_zero = a.no_zero; outside = t; utf8 = a.utf8 }

pub comments_lead : (insertion_mode : InsertionMode) (s : List ℕ) (st : Construction) (path : List Element) → CommentsGood st → Shape insertion_mode path → is_in_text path ≡ false → CommentAllowed [] s → Leads insertion_mode path (step_comment insertion_mode s (before_tag st insertion_mode path))
comments_lead initial s st path c shape t a = (good_on st initial path path c shape, λ w h. (a, h))
comments_lead before_html s st path c shape t a = (good_on st before_html path path c shape, λ w h. (a, h))
comments_lead before_head s st path c shape t a = (good_on st before_head path path c shape, λ w h. (allowed_on under_html s frame_text.1.0 a, h))
comments_lead in_head s st path c shape t a = (good_on st in_head path path c shape, λ w h. (allowed_on path s t a, h))
comments_lead after_head s st path c shape t a = (good_on st after_head path path c shape, λ w h. (allowed_on under_html s frame_text.1.0 a, h))
comments_lead in_body s st path c shape t a = (good_on st in_body path path c shape, λ w h. (allowed_on path s t a, h))
comments_lead after_body s st path c shape t a = (record { shape = shape; inner_comments = comments_append st.comments_after_body s c.0 a; last_comments = c.1; keeps = λ h. refl }, λ w h. h)
comments_lead after_html s st path c shape t a = (record { shape = shape; inner_comments = c.0; last_comments = comments_append st.comments_after_html s c.1 a; keeps = λ h. refl }, λ w h. h)

pub doctypes_lead : (insertion_mode : InsertionMode) (legacy : Bool) (st : Construction) (path : List Element) → CommentsGood st → Shape insertion_mode path → Leads insertion_mode path (step_doctype insertion_mode legacy (before_tag st insertion_mode path))
doctypes_lead initial legacy st path c s = (record { shape = s; inner_comments = c.0; last_comments = c.1; keeps = λ h. refl }, λ w h. h)
doctypes_lead before_html legacy st path c s = tt
doctypes_lead before_head legacy st path c s = tt
doctypes_lead in_head legacy st path c s = tt
doctypes_lead after_head legacy st path c s = tt
doctypes_lead in_body legacy st path c s = tt
doctypes_lead after_body legacy st path c s = tt
doctypes_lead after_html legacy st path c s = tt
