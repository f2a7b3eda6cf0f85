-- Start tags in body: what closes, what is made and what opens is settled.
use Rattle.std.proofs.Common.{◌≡◌, ℕ, Bool, true, false, cond, ◌||◌, ◌&&◌, not, if◌then◌else◌, List, [], ◌∷◌, ◌++◌, map, bytes_eq, refl, sym, ap, subst, inl, inr, codes}
use Rattle.std.proofs.lemmas.Bool.{and_parts, not-true, both_ways, false_from_ne_true}
use Rattle.std.specs.List.{list_all}
use Rattle.hm_base.specs.Forms.{is_tag_name}
use Rattle.hm_base.specs.Walks.{Event, start, end, Attribute, Element, pushes, begins_end}
use Rattle.hm_base.specs.declared.rules.Rule.TheVariants.{RefusedName, SecondRoot, BlockInParagraph, Nested, WrongParent, TooDeep, ForeignName}
use Rattle.hm_elements.specs.Names.{words, is_among, body, svg, html}
use Rattle.hm_elements.specs.Tables.{is_root, roots, is_void, is_refused, is_svg_name, holds_svg_text, is_raw, raw_names}
use Rattle.hm_elements.specs.Nesting.{is_closed_by_start, closed_by_start_rows, made_under}
use Rattle.hm_elements.specs.Paths.{html_element, current, is_in_svg, is_in_raw, stands_on, head_yields, is_block_in_p, is_nested, is_deep, front, rest_after, is_closed_by_start_of, made_on}
use Rattle.hm_elements.specs.Settled.{is_html}
use Rattle.hm_elements.specs.Places.{AttributesAllowed, StartAllowed, SettledBody}
use Rattle.hm_elements.proofs.TableTools.{same_bytes, entry_passes}
use Rattle.hm_elements.proofs.TableFacts.{svg_is_plain}
use Rattle.hm_open_elements.specs.Moves.{moves, refuses, element, opens, opens_in_place, start_on, svg_start_moves, html_start_moves, start_moves, is_void_open}
use Rattle.hm_construction_laws.specs.Steps.{in_body, Construction, went, stepped_after_events, moved, no_drop, under_body, drops_after, closes_at_once, entered, end_event, starts, after_moves, start_in_body}
use Rattle.hm_construction_laws.proofs.Standing.{BodyPath, at_body, inner, AllComments, Leads, after_leads, pushes_append}
use Rattle.hm_construction_laws.proofs.Made.{OpensTo, made_cases, made_leads, Free, made_free, made_path}

-- ---- The element opens

abbrev drops_none : List ℕ → Bool
drops_none n = not (is_among n (words "pre textarea"))

raw_drops_none : list_all drops_none (raw_names ++ codes "script" ∷ []) ≡ true
unfolding raw_names is_among
raw_drops_none = refl

-- no line feed is dropped in a raw text
pub raw_keeps : (path : List Element) → is_in_raw path ≡ true → drops_after path ≡ false
unfolding is_raw
raw_keeps [] h = refl
raw_keeps (e ∷ path) h =
    let two = and_parts (not e.foreign) (is_raw e.name) h in
    let k : is_among e.name (words "pre textarea") ≡ false = not-true _ (entry_passes drops_none e.name (raw_names ++ codes "script" ∷ []) raw_drops_none two.1) in
    rw k (by e.foreign)
  where
    by : (f : Bool) → not f && false ≡ false
    by true = refl
    by false = refl

-- a state in body, before a tag
abbrev pub in_body_on : Construction → List Element → Construction
in_body_on st path = moved (no_drop st) in_body path

-- what an element that opens on a path of body needs
pub record Opening (e : Element) (path : List Element) : Type 0 where
  pub no_root : is_html body e.name e.foreign ≡ false
  pub outside : e.foreign ≡ false → is_in_svg path ≡ false
  pub on_path : BodyPath path

abbrev pub CommentsGood : Construction → Type 0
CommentsGood st = AllComments st.comments_after_body × AllComments st.comments_after_html

pub entered_leads : (attributes : List Attribute) (slash : Bool) (st : Construction) (old : List Element) (e : Element) (path : List Element) → CommentsGood st → Opening e path
    → ((w : List Event) → (is_void_open (e ∷ path) ≡ true → begins_end w ≡ true) → StartAllowed e.name e.foreign attributes path w)
    → Leads in_body path (entered attributes slash (in_body_on st old) (e ∷ path))
entered_leads attributes slash st old e path c o allowed = by (closes_at_once slash (e ∷ path)) refl
  where
    no_void : closes_at_once slash (e ∷ path) ≡ false → is_void_open (e ∷ path) ≡ true → ⊥
    no_void h v = let k : true || (slash && is_in_svg (e ∷ path)) ≡ false = rw v at h in cc

    closed : (w : List Event) → SettledBody path w → SettledBody path (start e.name e.foreign attributes ∷ end e.name e.foreign ∷ w)
    closed w h = (allowed (end e.name e.foreign ∷ w) (λ v. refl), (refl, rw o.no_root h))

    by : (k : Bool) → closes_at_once slash (e ∷ path) ≡ k
        → Leads in_body path (cond k (went (start e.name e.foreign attributes ∷ end e.name e.foreign ∷ []) (record (in_body_on st old) { path = path })) (went (start e.name e.foreign attributes ∷ []) (record (in_body_on st old) { path = e ∷ path; drops_line_feed = drops_after (e ∷ path) })))
    by true h = (record { shape = o.on_path; inner_comments = c.0; last_comments = c.1; keeps = λ x. refl }, closed)
    by false h = (record { shape = inner e path o.no_root o.outside o.on_path; inner_comments = c.0; last_comments = c.1; keeps = raw_keeps (e ∷ path) }, λ w x. (allowed w (λ v. absurd (no_void h v)), x))

-- ---- What closes

body_keeps_open : (k : List ℕ) → is_closed_by_start body k ≡ false
unfolding is_closed_by_start closed_by_start_rows is_among
body_keeps_open k = refl

-- closing a prefix of the path
pub front_leads : (q : Element → Bool) (path : List Element) → BodyPath path → q (html_element body) ≡ false → OpensTo path (map end_event (front q path)) (rest_after q path)
front_leads q path at_body b w h = by (q (html_element body)) b h
  where
    by : (c : Bool) → c ≡ false → SettledBody (cond c (rest_after q (html_element html ∷ [])) under_body) w → SettledBody under_body (pushes (map end_event (cond c (html_element body ∷ front q (html_element html ∷ [])) [])) w)
    by true k s = cc
    by false k s = s
front_leads q path (inner e rest other out more) b w h = by (q e) (front_leads q rest more b w) h
  where
    by : (c : Bool) → (SettledBody (rest_after q rest) w → SettledBody rest (pushes (map end_event (front q rest)) w)) → SettledBody (cond c (rest_after q rest) (e ∷ rest)) w → SettledBody (e ∷ rest) (pushes (map end_event (cond c (e ∷ front q rest) [])) w)
    by true more' s = (refl, rw other (more' s))
    by false more' s = s

pub front_path : (q : Element → Bool) (path : List Element) → BodyPath path → q (html_element body) ≡ false → BodyPath (rest_after q path)
front_path q path at_body b = rw b at_body
front_path q path (inner e rest other out more) b = by (q e) (front_path q rest more b)
  where
    by : (c : Bool) → BodyPath (rest_after q rest) → BodyPath (cond c (rest_after q rest) (e ∷ rest))
    by true k = k
    by false k = inner e rest other out more

-- in an element of HTML what is left is of HTML
pub rest_in_html : (q : Element → Bool) (path : List Element) → BodyPath path → q (html_element body) ≡ false → is_in_svg path ≡ false → is_in_svg (rest_after q path) ≡ false
rest_in_html q path at_body b h = rw b refl
rest_in_html q path (inner e rest other out more) b h = by (q e) (rest_in_html q rest more b (out h))
  where
    by : (c : Bool) → is_in_svg (rest_after q rest) ≡ false → is_in_svg (cond c (rest_after q rest) (e ∷ rest)) ≡ false
    by true k = k
    by false k = h

-- what is left open doesn't yield
pub after_kept : (n : List ℕ) (path : List Element) → head_yields (rest_after (is_closed_by_start_of n) path) n ≡ false
after_kept n [] = refl
after_kept n (e ∷ path) = by (is_closed_by_start e.name n) refl (after_kept n path)
  where
    by : (c : Bool) → is_closed_by_start e.name n ≡ c → head_yields (rest_after (is_closed_by_start_of n) path) n ≡ false → head_yields (cond c (rest_after (is_closed_by_start_of n) path) (e ∷ path)) n ≡ false
    by true k more = more
    by false k more = k

-- ---- An element of HTML, or svg, in one of HTML

pub no_root_no_body : (n : List ℕ) → is_root n ≡ false → bytes_eq n body ≡ false
unfolding is_root roots is_among
no_root_no_body n h = false_from_ne_true (bytes_eq n body) (λ e. let k : is_among body roots ≡ false = rw (same_bytes n body e) at h in cc)

no_root_is_html : (n : List ℕ) (foreign : Bool) → is_root n ≡ false → is_html body n foreign ≡ false
no_root_is_html n true h = refl
no_root_is_html n false h = no_root_no_body n h

void_is_no_svg : (n : List ℕ) → is_void n ≡ true → bytes_eq n svg ≡ false
void_is_no_svg n h = false_from_ne_true (bytes_eq n svg) (λ e. both_ways (is_void svg) (svg_is_plain).not_void (rw (same_bytes n svg e) at h))

html_allowed : (n : List ℕ) (attributes : List Attribute) (path : List Element) (w : List Event) → is_tag_name n ≡ true → AttributesAllowed attributes → is_refused n ≡ false → Free n path → stands_on n path ≡ true → is_deep (element n (bytes_eq n svg) ∷ path) ≡ false
    → (is_void_open (element n (bytes_eq n svg) ∷ path) ≡ true → begins_end w ≡ true) → StartAllowed n (bytes_eq n svg) attributes path w
html_allowed n attributes path w form allowed known f stands shallow closes = record {
  element = inr (f.outside, record { kind = refl; name = form; known = known; stands = stands; kept = f.kept; no_block_in_p = f.no_block; not_nested = f.not_nested; void_is_closed = λ v. closes (rw (void_is_no_svg n v, v) refl) });
  attributes_allowed = allowed;
  not_deep = shallow;
}

-- the path on which the element opens, and what comes before
opens_leads : (n : List ℕ) (attributes : List Attribute) (slash : Bool) (st : Construction) (old path left : List Element) (closed : List Element) (t : List ℕ) (rest : List Element)
    → CommentsGood st → is_tag_name n ≡ true → AttributesAllowed attributes → is_refused n ≡ false → is_root n ≡ false
    → OpensTo path (map end_event closed) (html_element t ∷ rest) → BodyPath (html_element t ∷ rest) → Free n (html_element t ∷ rest)
    → Leads in_body path (after_moves attributes slash (in_body_on st old) (opens_in_place n closed (map html_element (made_under t n)) (map html_element (made_under t n) ++ html_element t ∷ rest)))
opens_leads n attributes slash st old path left closed t rest c form allowed known no_root closes on_path f = by_deep (is_deep on) refl
  where
    on : List Element
    on = map html_element (made_under t n) ++ html_element t ∷ rest

    e : Element
    e = element n (bytes_eq n svg)

    out : Free n (map html_element (made_under t n) ++ html_element t ∷ rest)
    out = made_free t n (made_under t n) rest (made_cases t n) f

    puts : is_deep on ≡ false → (w : List Event) → SettledBody on w → SettledBody path (pushes (map end_event closed ++ starts (map html_element (made_under t n))) w)
    puts shallow w h =
        rw (pushes_append (map end_event closed) (starts (map html_element (made_under t n))) w) (closes (pushes (starts (map html_element (made_under t n))) w) (made_leads t n (made_under t n) rest (made_cases t n) shallow w h))

    whole : is_deep on ≡ false → stands_on n on ≡ true → is_deep (e ∷ on) ≡ false → Leads in_body path (stepped_after_events (map end_event closed ++ starts (map html_element (made_under t n))) (entered attributes slash (in_body_on st old) (e ∷ on)))
    whole shallow stands shallow' =
        after_leads in_body in_body path on (map end_event closed ++ starts (map html_element (made_under t n))) (entered attributes slash (in_body_on st old) (e ∷ on)) (puts shallow)
        (entered_leads attributes slash st old e on c (record { no_root = no_root_is_html n (bytes_eq n svg) no_root; outside = λ h. out.outside; on_path = made_path t n (made_under t n) rest (made_cases t n) on_path }) (λ w v. html_allowed n attributes on w form allowed known out stands shallow' v))

    by_last : (b : Bool) → is_deep (e ∷ on) ≡ b → is_deep on ≡ false → stands_on n on ≡ true → Leads in_body path (after_moves attributes slash (in_body_on st old) (cond b (refuses TooDeep) (moves closed (map html_element (made_under t n)) (e ∷ on))))
    by_last true h shallow stands = tt
    by_last false h shallow stands = whole shallow stands h

    by_stands : (b : Bool) → stands_on n on ≡ b → is_deep on ≡ false → Leads in_body path (after_moves attributes slash (in_body_on st old) (cond (not b) (refuses WrongParent) (opens e closed (map html_element (made_under t n)) on)))
    by_stands true h shallow = by_last (is_deep (e ∷ on)) refl shallow h
    by_stands false h shallow = tt

    by_deep : (b : Bool) → is_deep on ≡ b → Leads in_body path (after_moves attributes slash (in_body_on st old) (cond b (refuses TooDeep) (if not (stands_on n on) then refuses WrongParent else opens e closed (map html_element (made_under t n)) on)))
    by_deep true h = tt
    by_deep false h = by_stands (stands_on n on) refl h

element_is : (e : Element) → e.foreign ≡ false → e ≡ html_element e.name
element_is e h = let f : Bool → Element = λ b. record { name = e.name; foreign = b } in ap f h

start_on_leads : (n : List ℕ) (attributes : List Attribute) (slash : Bool) (st : Construction) (old path closed : List Element) (left : List Element)
    → CommentsGood st → is_tag_name n ≡ true → AttributesAllowed attributes → is_refused n ≡ false → is_root n ≡ false
    → OpensTo path (map end_event closed) left → BodyPath left → is_in_svg left ≡ false → head_yields left n ≡ false
    → Leads in_body path (after_moves attributes slash (in_body_on st old) (start_on n closed left))
start_on_leads n attributes slash st old path closed [] c form allowed known no_root closes on_path outside kept = elim on_path [ ]
start_on_leads n attributes slash st old path closed (e ∷ rest) c form allowed known no_root closes on_path outside kept = by_block (is_block_in_p n (e ∷ rest)) refl
  where
    is : e ≡ html_element e.name
    is = element_is e outside

    inside : is_block_in_p n (e ∷ rest) ≡ false → is_nested n (e ∷ rest) ≡ false → Leads in_body path (after_moves attributes slash (in_body_on st old) (opens_in_place n closed (map html_element (made_under e.name n)) (map html_element (made_under e.name n) ++ e ∷ rest)))
    inside block nested =
        let P : Element → Type 0 = λ x. OpensTo path (map end_event closed) (x ∷ rest) → BodyPath (x ∷ rest) → Free n (x ∷ rest) → Leads in_body path (after_moves attributes slash (in_body_on st old) (opens_in_place n closed (map html_element (made_under e.name n)) (map html_element (made_under e.name n) ++ x ∷ rest))) in
        subst P (sym is) (λ a b f. opens_leads n attributes slash st old path rest closed e.name rest c form allowed known no_root a b f) closes on_path (record { kept = kept; no_block = block; not_nested = nested; outside = outside })

    by_nested : (b : Bool) → is_nested n (e ∷ rest) ≡ b → is_block_in_p n (e ∷ rest) ≡ false → Leads in_body path (after_moves attributes slash (in_body_on st old) (cond b (refuses Nested) (opens_in_place n closed (made_on n (e ∷ rest)) (made_on n (e ∷ rest) ++ e ∷ rest))))
    by_nested true h block = tt
    by_nested false h block = inside block h

    by_block : (b : Bool) → is_block_in_p n (e ∷ rest) ≡ b → Leads in_body path (after_moves attributes slash (in_body_on st old) (cond b (refuses BlockInParagraph) (if is_nested n (e ∷ rest) then refuses Nested else opens_in_place n closed (made_on n (e ∷ rest)) (made_on n (e ∷ rest) ++ e ∷ rest))))
    by_block true h = tt
    by_block false h = by_nested (is_nested n (e ∷ rest)) refl h

html_start_leads : (n : List ℕ) (attributes : List Attribute) (slash : Bool) (st : Construction) (path : List Element) → CommentsGood st → is_tag_name n ≡ true → AttributesAllowed attributes → BodyPath path → is_in_svg path ≡ false
    → Leads in_body path (after_moves attributes slash (in_body_on st path) (html_start_moves n path))
html_start_leads n attributes slash st path c form allowed on_path outside = by (is_refused n) (is_root n) refl refl
  where
    by : (b d : Bool) → is_refused n ≡ b → is_root n ≡ d → Leads in_body path (after_moves attributes slash (in_body_on st path) (cond b (refuses RefusedName) (cond d (refuses SecondRoot) (start_on n (front (is_closed_by_start_of n) path) (rest_after (is_closed_by_start_of n) path)))))
    by true d known no_root = tt
    by false true known no_root = tt
    by false false known no_root =
        start_on_leads n attributes slash st path path (front (is_closed_by_start_of n) path) (rest_after (is_closed_by_start_of n) path) c form allowed known no_root
        (front_leads (is_closed_by_start_of n) path on_path (body_keeps_open n)) (front_path (is_closed_by_start_of n) path on_path (body_keeps_open n)) (rest_in_html (is_closed_by_start_of n) path on_path (body_keeps_open n) outside) (after_kept n path)

-- ---- An element of SVG

svg_allowed : (n : List ℕ) (attributes : List Attribute) (path : List Element) (w : List Event) → AttributesAllowed attributes → is_in_svg path ≡ true → is_svg_name n ≡ true → holds_svg_text (current path) ≡ false → is_deep (element n true ∷ path) ≡ false → StartAllowed n true attributes path w
svg_allowed n attributes path w allowed inside known parent shallow = record { element = inl (inside, record { kind = refl; name = known; parent = parent }); attributes_allowed = allowed; not_deep = shallow }

svg_start_leads : (n : List ℕ) (attributes : List Attribute) (slash : Bool) (st : Construction) (path : List Element) → CommentsGood st → AttributesAllowed attributes → BodyPath path → is_in_svg path ≡ true
    → Leads in_body path (after_moves attributes slash (in_body_on st path) (svg_start_moves n path))
svg_start_leads n attributes slash st path c allowed on_path inside = by_name (is_svg_name n) refl
  where
    whole : is_svg_name n ≡ true → holds_svg_text (current path) ≡ false → is_deep (element n true ∷ path) ≡ false → Leads in_body path (stepped_after_events [] (entered attributes slash (in_body_on st path) (element n true ∷ path)))
    whole known parent shallow =
        after_leads in_body in_body path path [] (entered attributes slash (in_body_on st path) (element n true ∷ path)) (λ w h. h)
        (entered_leads attributes slash st path (element n true) path c (record { no_root = refl; outside = λ h. cc; on_path = on_path }) (λ w v. svg_allowed n attributes path w allowed inside known parent shallow))

    by_deep : (b : Bool) → is_deep (element n true ∷ path) ≡ b → is_svg_name n ≡ true → holds_svg_text (current path) ≡ false → Leads in_body path (after_moves attributes slash (in_body_on st path) (cond b (refuses TooDeep) (moves [] [] (element n true ∷ path))))
    by_deep true h known parent = tt
    by_deep false h known parent = whole known parent h

    by_parent : (b : Bool) → holds_svg_text (current path) ≡ b → is_svg_name n ≡ true → Leads in_body path (after_moves attributes slash (in_body_on st path) (cond b (refuses WrongParent) (opens (element n true) [] [] path)))
    by_parent true h known = tt
    by_parent false h known = by_deep (is_deep (element n true ∷ path)) refl known h

    by_name : (b : Bool) → is_svg_name n ≡ b → Leads in_body path (after_moves attributes slash (in_body_on st path) (cond (not b) (refuses ForeignName) (if holds_svg_text (current path) then refuses WrongParent else opens (element n true) [] [] path)))
    by_name true h = by_parent (holds_svg_text (current path)) refl h
    by_name false h = tt

-- a start tag in body
pub start_leads : (n : List ℕ) (attributes : List Attribute) (slash : Bool) (st : Construction) (path : List Element) → CommentsGood st → is_tag_name n ≡ true → AttributesAllowed attributes → BodyPath path → Leads in_body path (start_in_body n attributes slash (in_body_on st path))
unfolding start_moves
start_leads n attributes slash st path c form allowed on_path = by (is_in_svg path) refl
  where
    by : (b : Bool) → is_in_svg path ≡ b → Leads in_body path (after_moves attributes slash (in_body_on st path) (cond b (svg_start_moves n path) (html_start_moves n path)))
    by true h = svg_start_leads n attributes slash st path c allowed on_path h
    by false h = html_start_leads n attributes slash st path c form allowed on_path h
