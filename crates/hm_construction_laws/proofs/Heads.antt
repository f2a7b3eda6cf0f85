-- Start tags in head: the element stands there, or head is closed and body made.
use Rattle.std.proofs.Common.{◌≡◌, ℕ, Bool, true, false, cond, ◌||◌, ◌&&◌, not, if◌then◌else◌, List, [], ◌∷◌, bytes_eq, refl, sym, ◌∙◌, inl, inr}
use Rattle.std.proofs.lemmas.Bool.{and_parts, or_cases, not-true, both_ways}
use Rattle.std.specs.List.{list_all}
use Rattle.hm_base.specs.Forms.{is_tag_name}
use Rattle.hm_base.specs.Walks.{Event, start, end, Attribute, Element, begins_end}
use Rattle.hm_base.specs.declared.rules.Rule.TheVariants.{WrongParent, AfterHead}
use Rattle.hm_elements.specs.Names.{words, is_among, head, noscript, svg}
use Rattle.hm_elements.specs.Tables.{is_metadata, is_void, voids, is_refused, is_raw, raw_names, is_rcdata, rcdata_names, holds_text, closes_p, paragraph_ends, blocks, headings, is_unnested, unnested_names, is_heading, parts}
use Rattle.hm_elements.specs.Nesting.{may_stand, children, noscript_children, is_closed_by_start, closed_by_start_rows}
use Rattle.hm_elements.specs.Paths.{html_element, is_in_svg, is_in_text, stands_on, head_yields, is_block_in_p, is_nested, is_deep}
use Rattle.hm_elements.specs.Places.{AttributesAllowed, StartAllowed}
use Rattle.hm_elements.proofs.TableTools.{same_bytes, entry_passes}
use Rattle.hm_construction_laws.specs.Steps.{in_head, after_head, Construction, went, stops, under_html, under_head, under_body, close_head, make_body, is_in_noscript, drops_after, opened, start_in_body, start_after_head, start_in_noscript, start_in_head}
use Rattle.hm_construction_laws.proofs.Standing.{HeadOuter, at_head, at_noscript, HeadPath, outside_text, inside_text, at_body, Leads, closed_leads, body_leads, head_is}
use Rattle.hm_construction_laws.proofs.Starts.{CommentsGood, raw_keeps, start_leads}
use Rattle.hm_construction_laws.proofs.Ends.{before_tag}

-- ---- What stands in head

-- a name whose only condition in head is its parent
abbrev is_plain : List ℕ → Bool
is_plain n = not (bytes_eq n svg) && (not (closes_p n) && (not (is_unnested n) && (not (is_heading n) && (not (bytes_eq n head) && (not (is_closed_by_start head n) && not (is_closed_by_start noscript n))))))

-- it is void, holds a text, or is noscript
abbrev is_kept : List ℕ → Bool
is_kept n = is_void n || holds_text n

abbrev is_child : List ℕ → Bool
is_child n = is_plain n && (is_kept n || bytes_eq n noscript)

abbrev is_inner_child : List ℕ → Bool
is_inner_child n = is_plain n && is_kept n

head_children : list_all is_child (words "base link meta noscript script style title") ≡ true
unfolding closes_p paragraph_ends blocks headings is_unnested unnested_names is_heading is_closed_by_start closed_by_start_rows parts is_void voids holds_text is_raw raw_names is_rcdata rcdata_names is_among
head_children = refl

inner_children : list_all is_inner_child noscript_children ≡ true
unfolding noscript_children closes_p paragraph_ends blocks headings is_unnested unnested_names is_heading is_closed_by_start closed_by_start_rows parts is_void voids holds_text is_raw raw_names is_rcdata rcdata_names is_among
inner_children = refl

stands_in_head : (n : List ℕ) → stands_on n under_head ≡ is_among n (words "base link meta noscript script style title")
unfolding may_stand children is_among
stands_in_head n = refl

stands_in_noscript : (n : List ℕ) → stands_on n (html_element noscript ∷ under_head) ≡ is_among n noscript_children
unfolding may_stand
stands_in_noscript n = refl

pub record PlainChild (n : List ℕ) : Type 0 where
  pub no_svg : bytes_eq n svg ≡ false
  pub no_block : closes_p n ≡ false
  pub no_own : is_unnested n ≡ false
  pub no_heading : is_heading n ≡ false
  pub no_head : bytes_eq n head ≡ false
  pub head_keeps : is_closed_by_start head n ≡ false
  pub noscript_keeps : is_closed_by_start noscript n ≡ false

plain_child : (n : List ℕ) → is_plain n ≡ true → PlainChild n
plain_child n h =
    let one = and_parts (not (bytes_eq n svg)) _ h in
    let two = and_parts (not (closes_p n)) _ one.1 in
    let three = and_parts (not (is_unnested n)) _ two.1 in
    let four = and_parts (not (is_heading n)) _ three.1 in
    let five = and_parts (not (bytes_eq n head)) _ four.1 in
    let six = and_parts (not (is_closed_by_start head n)) (not (is_closed_by_start noscript n)) five.1 in
    record { no_svg = not-true _ one.0; no_block = not-true _ two.0; no_own = not-true _ three.0; no_heading = not-true _ four.0; no_head = not-true _ five.0; head_keeps = not-true _ six.0; noscript_keeps = not-true _ six.1 }

-- an element that may open on a path in head
pub record HeadOpening (n : List ℕ) (path : List Element) : Type 0 where
  pub plain : PlainChild n
  pub outer_path : HeadOuter path
  pub stands : stands_on n path ≡ true
  pub then_path : is_void n ≡ false → HeadPath (html_element n ∷ path)

in_outer : (n : List ℕ) (path : List Element) → HeadOuter path → is_void n || holds_text n ≡ true → is_void n ≡ false → HeadPath (html_element n ∷ path)
in_outer n path o k v = let t : false || holds_text n ≡ true = rw v at k in inside_text n path t o

in_head_there : (n : List ℕ) → (is_void n || holds_text n) || bytes_eq n noscript ≡ true → is_void n ≡ false → HeadPath (html_element n ∷ under_head)
in_head_there n k v =
    elim (or_cases (is_void n || holds_text n) (bytes_eq n noscript) k) [
      | inl a ↦ in_outer n under_head at_head a v
      | inr b ↦ rw (same_bytes n noscript b) (outside_text (html_element noscript ∷ under_head) at_noscript)
    ]

opens_in_head : (n : List ℕ) → stands_on n under_head ≡ true → HeadOpening n under_head
opens_in_head n h =
    let c : is_child n ≡ true = entry_passes is_child n (words "base link meta noscript script style title") head_children (rw (stands_in_head n) at h) in
    let two = and_parts (is_plain n) (is_kept n || bytes_eq n noscript) c in
    record { plain = plain_child n two.0; outer_path = at_head; stands = h; then_path = in_head_there n two.1 }

opens_in_noscript : (n : List ℕ) → is_among n noscript_children ≡ true → HeadOpening n (html_element noscript ∷ under_head)
opens_in_noscript n h =
    let two = and_parts (is_plain n) (is_kept n) (entry_passes is_inner_child n noscript_children inner_children h) in
    record { plain = plain_child n two.0; outer_path = at_noscript; stands = stands_in_noscript n ∙ h; then_path = in_outer n (html_element noscript ∷ under_head) at_noscript two.1 }

outer_free : (n : List ℕ) (path : List Element) → HeadOuter path → PlainChild n → (head_yields path n ≡ false) × ((is_in_svg path ≡ false) × ((is_block_in_p n path ≡ false) × ((is_nested n path ≡ false) × (is_deep (html_element n ∷ path) ≡ false))))
unfolding is_block_in_p is_nested is_deep
outer_free n path at_head c = (c.head_keeps, (refl, (rw c.no_block refl, (rw (c.no_own, c.no_heading) refl, refl))))
outer_free n path at_noscript c = (c.noscript_keeps, (refl, (rw c.no_block refl, (rw (c.no_own, c.no_heading) refl, refl))))

head_allowed : (n : List ℕ) (attributes : List Attribute) (path : List Element) (w : List Event) → is_tag_name n ≡ true → AttributesAllowed attributes → is_refused n ≡ false → HeadOpening n path → (is_void n ≡ true → begins_end w ≡ true) → StartAllowed n false attributes path w
head_allowed n attributes path w form allowed known o closes =
    let f = outer_free n path o.outer_path o.plain in
    record {
      element = inr (f.1.0, record { kind = sym o.plain.no_svg; name = form; known = known; stands = o.stands; kept = f.0; no_block_in_p = f.1.1.0; not_nested = f.1.1.1.0; void_is_closed = closes });
      attributes_allowed = allowed;
      not_deep = f.1.1.1.1;
    }

opened_leads : (n : List ℕ) (attributes : List Attribute) (st : Construction) (path : List Element) → CommentsGood st → is_tag_name n ≡ true → AttributesAllowed attributes → is_refused n ≡ false → HeadOpening n path
    → Leads in_head path (opened n attributes (before_tag st in_head path))
opened_leads n attributes st path c form allowed known o = by (is_void n) refl
  where
    by : (v : Bool) → is_void n ≡ v
        → Leads in_head path (cond ((not false && v) || (false && false)) (went (start n false attributes ∷ end n false ∷ []) (record (before_tag st in_head path) { path = path })) (went (start n false attributes ∷ []) (record (before_tag st in_head path) { path = html_element n ∷ path; drops_line_feed = drops_after (html_element n ∷ path) })))
    by true h = (record { shape = outside_text path o.outer_path; inner_comments = c.0; last_comments = c.1; keeps = λ x. refl }, λ w s. (head_allowed n attributes path (end n false ∷ w) form allowed known o (λ v. refl), (refl, rw o.plain.no_head s)))
    by false h = (record { shape = o.then_path h; inner_comments = c.0; last_comments = c.1; keeps = raw_keeps (html_element n ∷ path) }, λ w s. (head_allowed n attributes path w form allowed known o (λ v. absurd (both_ways (is_void n) h v)), s))

-- ---- A start tag before body

pub after_head_leads : (n : List ℕ) (attributes : List Attribute) (slash : Bool) (st : Construction) (path : List Element) → CommentsGood st → is_tag_name n ≡ true → AttributesAllowed attributes
    → Leads after_head path (start_after_head n attributes slash (before_tag st after_head path))
after_head_leads n attributes slash st path c form allowed = by (is_metadata n)
  where
    by : (b : Bool) → Leads after_head path (cond b (stops AfterHead 0) (make_body (start_in_body n attributes slash) (before_tag st after_head path)))
    by true = tt
    by false = body_leads path (before_tag st after_head path) (start_in_body n attributes slash) (start_leads n attributes slash st under_body c form allowed at_body)

in_noscript_leads : (n : List ℕ) (attributes : List Attribute) (st : Construction) (path : List Element) → CommentsGood st → is_tag_name n ≡ true → AttributesAllowed attributes → is_refused n ≡ false → path ≡ html_element noscript ∷ under_head
    → Leads in_head path (start_in_noscript n attributes (before_tag st in_head path))
in_noscript_leads n attributes st path c form allowed known is = rw is (by (is_among n noscript_children) refl)
  where
    by : (b : Bool) → is_among n noscript_children ≡ b → Leads in_head (html_element noscript ∷ under_head) (cond b (opened n attributes (before_tag st in_head (html_element noscript ∷ under_head))) (stops WrongParent 0))
    by true h = opened_leads n attributes st (html_element noscript ∷ under_head) c form allowed known (opens_in_noscript n h)
    by false h = tt

in_head_itself : (n : List ℕ) (attributes : List Attribute) (slash : Bool) (st : Construction) (path : List Element) → CommentsGood st → is_tag_name n ≡ true → AttributesAllowed attributes → is_refused n ≡ false → path ≡ under_head
    → Leads in_head path (if stands_on n path then opened n attributes (before_tag st in_head path) else close_head (start_after_head n attributes slash) (before_tag st in_head path))
in_head_itself n attributes slash st path c form allowed known is = rw is (by (stands_on n under_head) refl)
  where
    by : (b : Bool) → stands_on n under_head ≡ b → Leads in_head under_head (cond b (opened n attributes (before_tag st in_head under_head)) (close_head (start_after_head n attributes slash) (before_tag st in_head under_head)))
    by true h = opened_leads n attributes st under_head c form allowed known (opens_in_head n h)
    by false h = closed_leads (before_tag st in_head under_head) (start_after_head n attributes slash) (after_head_leads n attributes slash st under_html c form allowed)

-- in noscript, outside of texts
pub noscript_is : (path : List Element) → HeadPath path → is_in_text path ≡ false → is_in_noscript in_head path ≡ true → path ≡ html_element noscript ∷ under_head
noscript_is path (outside_text path' o) t n = by path o n
  where
    by : (q : List Element) → HeadOuter q → is_in_noscript in_head q ≡ true → q ≡ html_element noscript ∷ under_head
    by q at_head k = cc
    by q at_noscript k = refl
noscript_is path (inside_text m path' h o) t n = absurd (both_ways (holds_text m) t h)

pub in_head_leads : (n : List ℕ) (attributes : List Attribute) (slash : Bool) (st : Construction) (path : List Element) → CommentsGood st → is_tag_name n ≡ true → AttributesAllowed attributes → is_refused n ≡ false → HeadPath path → is_in_text path ≡ false
    → Leads in_head path (start_in_head n attributes slash (before_tag st in_head path))
in_head_leads n attributes slash st path c form allowed known on_path t = by (is_in_noscript in_head path) refl
  where
    by : (b : Bool) → is_in_noscript in_head path ≡ b → Leads in_head path (cond b (start_in_noscript n attributes (before_tag st in_head path)) (if stands_on n path then opened n attributes (before_tag st in_head path) else close_head (start_after_head n attributes slash) (before_tag st in_head path)))
    by true h = in_noscript_leads n attributes st path c form allowed known (noscript_is path on_path t h)
    by false h = in_head_itself n attributes slash st path c form allowed known (head_is path on_path t h)
