-- Tags in body: what a tag does where its element stands, and where the tag before it was left out.
use Rattle.std.proofs.Common.{◌≡◌, ℕ, Bool, true, false, cond, not, ◌&&◌, ◌||◌, List, [], ◌∷◌, ◌++◌, map, bytes_eq, refl, sym, ◌∙◌, ap, inl, inr}
use Rattle.std.proofs.lemmas.Bool.{and_parts, not-true, both_ways, false_from_ne_true}
use Rattle.hm_base.specs.Forms.{is_tag_name}
use Rattle.hm_base.specs.Walks.{Attribute, Event, start, end, comment, Element}
use Rattle.hm_base.specs.declared.rules.Rule.TheVariants.{RefusedName, SecondRoot, BlockInParagraph, Nested, WrongParent, TooDeep}
use Rattle.hm_elements.specs.Names.{is_among, html, head, body, svg}
use Rattle.hm_elements.specs.Tables.{roots, headings, sections, blocks, is_root, is_void, is_refused, holds_text}
use Rattle.hm_elements.specs.Nesting.{is_closed_by_start, is_ended_by, made_under, end_rows}
use Rattle.hm_elements.specs.Paths.{html_element, current, current_name, is_in_svg, is_in_text, stands_on, head_yields, is_open, is_block_in_p, is_nested, is_deep, front, rest_after, is_closed_by_start_of, is_closed_by_end_of, made_on}
use Rattle.hm_elements.specs.Places.{StartAllowed, HtmlAllowed, SvgAllowed, ElementAllowed}
use Rattle.hm_elements.specs.Laws.{ParentIs, HoldsMore, StartIsMade}
use Rattle.hm_elements.proofs.TableTools.{same_bytes, eq_self, each_pair, pair_passes}
use Rattle.hm_elements.proofs.TableFacts.{stands_parent, stands_parent_holds, stands_made, ends_is_other, outer_is_not_deep}
use Rattle.hm_open_elements.specs.Moves.{moves, refuses, element, opens_in_place, start_on, html_start_moves, start_moves, ends_nothing, end_on, end_moves}
use Rattle.hm_tree.specs.Tokens as tokens
use Rattle.hm_construction_laws.specs.Steps.{in_body, Construction, Stepped, went, stops, stepped_after_events, under_body, drops_after, closes_at_once, entered, end_event, start_event, starts, after_moves, start_in_body, after_end_moves, end_current, html_end, step, step_start, step_end}
use Rattle.hm_round_trip_laws.proofs.Ahead.{Ahead, tag, point, finish, Agree, events_twice}
use Rattle.hm_round_trip_laws.proofs.Frame.{here}

-- ---- Paths in body

-- an element of HTML stands where it is, and isn't void
pub record Stands (e : Element) (path : List Element) : Type 0 where
  pub name : is_tag_name e.name ≡ true
  pub outside : e.foreign ≡ false → is_in_svg path ≡ false
  pub stands : e.foreign ≡ false → stands_on e.name path ≡ true
  pub solid : e.foreign ≡ false → is_void e.name ≡ false

pub data Inside : List Element → Type 0 where
  at_body : Inside under_body
  inner : (e : Element) (path : List Element) → Stands e path → Inside path → Inside (e ∷ path)

pub stands_in : (n : List ℕ) (path : List Element) → stands_on n path ≡ true → ParentIs n (current path) × (HoldsMore (current path) × (made_under (current path) n ≡ []))
stands_in n [] h = cc
stands_in n (e ∷ path) h = (stands_parent n e.name (current_name path) h, (stands_parent_holds n e.name (current_name path) h, stands_made n e.name (current_name path) h))

pub record NoRoot (n : List ℕ) : Type 0 where
  pub no_html : bytes_eq n html ≡ false
  pub no_head : bytes_eq n head ≡ false
  pub no_body : bytes_eq n body ≡ false

html_is_root : (is_root html ≡ true) × ((is_root head ≡ true) × (is_root body ≡ true))
unfolding is_root roots is_among
html_is_root = (refl, (refl, refl))

pub no_root : (n : List ℕ) → is_root n ≡ false → NoRoot n
no_root n h = record { no_html = other html html_is_root.0; no_head = other head html_is_root.1.0; no_body = other body html_is_root.1.1 }
  where
    other : (m : List ℕ) → is_root m ≡ true → bytes_eq n m ≡ false
    other m r = false_from_ne_true (bytes_eq n m) (λ e. both_ways (is_root n) h (rw (same_bytes n m e) r))

pub element_no_root : (e : Element) (path : List Element) → Stands e path → e.foreign ≡ false → NoRoot e.name
element_no_root e path s h = no_root e.name (stands_in e.name path (s.stands h)).0.is_no_root

-- ---- A start tag of an element that stands there

pub events_none : (o : Stepped) → stepped_after_events [] o ≡ o
events_none (went es st) = refl
events_none (stops rule n) = refl

front_kept : (n : List ℕ) (path : List Element) → head_yields path n ≡ false → (front (is_closed_by_start_of n) path ≡ []) × (rest_after (is_closed_by_start_of n) path ≡ path)
front_kept n [] h = (refl, refl)
front_kept n (e ∷ path) h = rw h (refl, refl)

html_moves : (n : List ℕ) (foreign : Bool) (path : List Element) (w : List Event) → is_in_svg path ≡ false → HtmlAllowed n foreign path w → is_deep (element n foreign ∷ path) ≡ false → html_start_moves n path ≡ moves [] [] (element n foreign ∷ path)
html_moves n foreign path w out a shallow =
    let at = stands_in n path a.stands in
    let kept = front_kept n path a.kept in
    let deep : is_deep (element n (bytes_eq n svg) ∷ path) ≡ false = rw a.kind at shallow in
    let on : start_on n [] path ≡ moves [] [] (element n (bytes_eq n svg) ∷ path) = rw (a.no_block_in_p, a.not_nested, at.1.1, outer_is_not_deep (element n foreign) path shallow, a.stands, deep) refl in
    rw (a.known, at.0.is_no_root, kept.0, kept.1, on, a.kind) refl

-- what the element's start tag does in body
start_opens : (n : List ℕ) (attributes : List Attribute) (slash : Bool) (path : List Element) (e : Element) → start_moves n path ≡ moves [] [] (e ∷ path) → start_in_body n attributes slash (here in_body path false) ≡ entered attributes slash (here in_body path false) (e ∷ path)
start_opens n attributes slash path e h = ap (after_moves attributes slash (here in_body path false)) h ∙ events_none (entered attributes slash (here in_body path false) (e ∷ path))

svg_tag : (n : List ℕ) (attributes : List Attribute) (slash : Bool) (path : List Element) (drops : Bool) → is_in_svg path ≡ true → step (here in_body path drops) (tokens.start_tag n attributes slash) ≡ start_in_body n attributes slash (here in_body path false)
unfolding step step_start
svg_tag n attributes slash path drops h = rw h refl

html_tag : (n : List ℕ) (attributes : List Attribute) (slash : Bool) (path : List Element) (drops : Bool) → is_in_svg path ≡ false → is_refused n ≡ false → NoRoot n → step (here in_body path drops) (tokens.start_tag n attributes slash) ≡ start_in_body n attributes slash (here in_body path false)
unfolding step step_start
html_tag n attributes slash path drops h known root = rw (h, known, root.no_html, root.no_head, root.no_body) refl

svg_moves : (n : List ℕ) (foreign : Bool) (path : List Element) → is_in_svg path ≡ true → SvgAllowed n foreign path → is_deep (element n foreign ∷ path) ≡ false → start_moves n path ≡ moves [] [] (element n foreign ∷ path)
unfolding start_moves
svg_moves n foreign path inside a shallow = let deep : is_deep (element n true ∷ path) ≡ false = rw a.kind at shallow in rw (inside, a.name, a.parent, deep, a.kind) refl

moves_in_html : (n : List ℕ) (path : List Element) → is_in_svg path ≡ false → start_moves n path ≡ html_start_moves n path
unfolding start_moves
moves_in_html n path h = rw h refl

pub start_steps : (n : List ℕ) (foreign : Bool) (attributes : List Attribute) (slash : Bool) (path : List Element) (w : List Event) (drops : Bool) → StartAllowed n foreign attributes path w
    → step (here in_body path drops) (tokens.start_tag n attributes slash) ≡ entered attributes slash (here in_body path false) (element n foreign ∷ path)
start_steps n foreign attributes slash path w drops a = by a.element
  where
    by : ElementAllowed n foreign path w → step (here in_body path drops) (tokens.start_tag n attributes slash) ≡ entered attributes slash (here in_body path false) (element n foreign ∷ path)
    by (inl (inside, s)) = svg_tag n attributes slash path drops inside ∙ start_opens n attributes slash path (element n foreign) (svg_moves n foreign path inside s a.not_deep)
    by (inr (out, h)) =
        html_tag n attributes slash path drops out h.known (no_root n (stands_in n path h.stands).0.is_no_root)
        ∙ start_opens n attributes slash path (element n foreign) (moves_in_html n path out ∙ html_moves n foreign path w out h a.not_deep)

pub stays_open : (attributes : List Attribute) (slash : Bool) (n : List ℕ) (foreign : Bool) (path : List Element) → closes_at_once slash (element n foreign ∷ path) ≡ false
    → entered attributes slash (here in_body path false) (element n foreign ∷ path) ≡ went (start n foreign attributes ∷ []) (here in_body (element n foreign ∷ path) (drops_after (element n foreign ∷ path)))
stays_open attributes slash n foreign path h = rw h refl

pub closes_again : (attributes : List Attribute) (slash : Bool) (n : List ℕ) (foreign : Bool) (path : List Element) → closes_at_once slash (element n foreign ∷ path) ≡ true
    → entered attributes slash (here in_body path false) (element n foreign ∷ path) ≡ went (start n foreign attributes ∷ end n foreign ∷ []) (here in_body path false)
closes_again attributes slash n foreign path h = rw h refl

-- ---- An end tag of the innermost element

current_ends : (e : Element) (path : List Element) → end_current e.name (here in_body (e ∷ path) false) (e ∷ path) ≡ went (end e.name e.foreign ∷ []) (here in_body path false)
current_ends e path = rw (eq_self e.name) refl

html_ends : (e : Element) (path : List Element) → e.foreign ≡ false → NoRoot e.name → html_end e.name (here in_body (e ∷ path) false) ≡ went (end e.name e.foreign ∷ []) (here in_body path false)
unfolding end_moves
html_ends e path h root = rw (root.no_head, root.no_body, root.no_html, h, eq_self e.name) (rw (eq_self e.name) refl)

pub end_steps : (e : Element) (path : List Element) (drops : Bool) → Stands e path → step (here in_body (e ∷ path) drops) (tokens.end_tag e.name) ≡ went (end e.name e.foreign ∷ []) (here in_body path false)
unfolding step step_end
end_steps e path drops s = by (is_in_text (e ∷ path)) e.foreign refl
  where
    by : (t f : Bool) → e.foreign ≡ f → cond t (end_current e.name (here in_body (e ∷ path) false) (e ∷ path)) (cond (f || false) (end_current e.name (here in_body (e ∷ path) false) (e ∷ path)) (html_end e.name (here in_body (e ∷ path) false))) ≡ went (end e.name e.foreign ∷ []) (here in_body path false)
    by true f h = current_ends e path
    by false true h = current_ends e path
    by false false h = html_ends e path h (element_no_root e path s h)

pub comment_steps : (path : List Element) (drops : Bool) (s : List ℕ) → step (here in_body path drops) (tokens.comment s) ≡ went (comment s ∷ []) (here in_body path false)
unfolding step
comment_steps path drops s = refl

-- ---- After an end tag that was left out

-- the tag closes or ends the element n
abbrev pub Closes : List ℕ → Ahead → Type 0
Closes n (tag (tokens.start_tag m attributes slash)) = is_closed_by_start n m ≡ true
Closes n (tag (tokens.end_tag m)) = is_ended_by n m ≡ true
Closes n x = ⊥

-- one more element closes
start_on_more : (m : List ℕ) (attributes : List Attribute) (slash : Bool) (e : Element) (whole path : List Element) (drops : Bool) (closed left : List Element)
    → after_moves attributes slash (here in_body (e ∷ whole) drops) (start_on m (e ∷ closed) left) ≡ stepped_after_events (end_event e ∷ []) (after_moves attributes slash (here in_body path drops) (start_on m closed left))
start_on_more m attributes slash e whole path drops closed left = by (is_block_in_p m left) (is_nested m left) (is_deep (made_on m left ++ left)) (stands_on m (made_on m left ++ left)) (is_deep (element m (bytes_eq m svg) ∷ (made_on m left ++ left)))
  where
    made : List Element
    made = made_on m left

    on : List Element
    on = element m (bytes_eq m svg) ∷ (made_on m left ++ left)

    by : (a b c d f : Bool) → after_moves attributes slash (here in_body (e ∷ whole) drops) (cond a (refuses BlockInParagraph) (cond b (refuses Nested) (cond c (refuses TooDeep) (cond (not d) (refuses WrongParent) (cond f (refuses TooDeep) (moves (e ∷ closed) made on))))))
        ≡ stepped_after_events (end_event e ∷ []) (after_moves attributes slash (here in_body path drops) (cond a (refuses BlockInParagraph) (cond b (refuses Nested) (cond c (refuses TooDeep) (cond (not d) (refuses WrongParent) (cond f (refuses TooDeep) (moves closed made on)))))))
    by true b c d f = refl
    by false true c d f = refl
    by false false true d f = refl
    by false false false false f = refl
    by false false false true true = refl
    by false false false true false = events_twice (end_event e ∷ []) (map end_event closed ++ starts made) (entered attributes slash (here in_body path drops) on)

moved_more : (attributes : List Attribute) (slash : Bool) (m n : List ℕ) (path : List Element) → is_in_svg path ≡ false → is_closed_by_start n m ≡ true → start_in_body m attributes slash (here in_body (html_element n ∷ path) false) ≡ stepped_after_events (end n false ∷ []) (start_in_body m attributes slash (here in_body path false))
unfolding start_moves
moved_more attributes slash m n path out closes = rw (out, closes) (by (is_refused m) (is_root m))
  where
    by : (a b : Bool) → after_moves attributes slash (here in_body (html_element n ∷ path) false) (cond a (refuses RefusedName) (cond b (refuses SecondRoot) (start_on m (html_element n ∷ front (is_closed_by_start_of m) path) (rest_after (is_closed_by_start_of m) path))))
        ≡ stepped_after_events (end n false ∷ []) (after_moves attributes slash (here in_body path false) (cond a (refuses RefusedName) (cond b (refuses SecondRoot) (start_on m (front (is_closed_by_start_of m) path) (rest_after (is_closed_by_start_of m) path)))))
    by true b = refl
    by false true = refl
    by false false = start_on_more m attributes slash (html_element n) path path false (front (is_closed_by_start_of m) path) (rest_after (is_closed_by_start_of m) path)

pub start_closes : (m : List ℕ) (attributes : List Attribute) (slash : Bool) (n : List ℕ) (path : List Element) (drops drops' : Bool) → is_in_svg path ≡ false → is_closed_by_start n m ≡ true
    → step (here in_body (html_element n ∷ path) drops) (tokens.start_tag m attributes slash) ≡ stepped_after_events (end n false ∷ []) (step (here in_body path drops') (tokens.start_tag m attributes slash))
unfolding step step_start
start_closes m attributes slash n path drops drops' out closes = rw out (by (is_refused m) (bytes_eq m html) (bytes_eq m head) (bytes_eq m body) (moved_more attributes slash m n path out closes))
  where
    st : Construction
    st = here in_body (html_element n ∷ path) false

    next : Construction
    next = here in_body path false

    by : (a b c d : Bool) → start_in_body m attributes slash st ≡ stepped_after_events (end n false ∷ []) (start_in_body m attributes slash next)
        → cond a (stops RefusedName 0) (cond b (stops SecondRoot 0) (cond c (stops SecondRoot 0) (cond d (stops SecondRoot 0) (start_in_body m attributes slash st))))
        ≡ stepped_after_events (end n false ∷ []) (cond a (stops RefusedName 0) (cond b (stops SecondRoot 0) (cond c (stops SecondRoot 0) (cond d (stops SecondRoot 0) (start_in_body m attributes slash next)))))
    by true b c d h = refl
    by false true c d h = refl
    by false false true d h = refl
    by false false false true h = refl
    by false false false false h = h

no_frame_ends : each_pair (λ c t. not (bytes_eq t html) && (not (bytes_eq t head) && not (bytes_eq t body))) end_rows ≡ true
unfolding end_rows blocks headings sections is_among
no_frame_ends = refl

-- no element ends with the end tag of html, head or body
ends_no_root : (n m : List ℕ) → is_ended_by n m ≡ true → NoRoot m
unfolding is_ended_by
ends_no_root n m h =
    let one = and_parts (not (bytes_eq m html)) _ (pair_passes (λ c t. not (bytes_eq t html) && (not (bytes_eq t head) && not (bytes_eq t body))) n m end_rows no_frame_ends h) in
    let two = and_parts (not (bytes_eq m head)) _ one.1 in
    record { no_html = not-true (bytes_eq m html) one.0; no_head = not-true (bytes_eq m head) two.0; no_body = not-true (bytes_eq m body) two.1 }

end_on_more : (m : List ℕ) (e : Element) (whole path : List Element) (closed left : List Element) (somewhere : Bool)
    → after_end_moves (here in_body (e ∷ whole) false) (end_on m (e ∷ closed) left somewhere) ≡ stepped_after_events (end_event e ∷ []) (after_end_moves (here in_body path false) (end_on m closed left somewhere))
end_on_more m e whole path closed [] true = refl
end_on_more m e whole path closed [] false = refl
end_on_more m e whole path closed (f ∷ left) somewhere = by (bytes_eq f.name m) somewhere
  where
    by : (a b : Bool) → after_end_moves (here in_body (e ∷ whole) false) (cond a (moves ((e ∷ closed) ++ f ∷ []) [] left) (ends_nothing b)) ≡ stepped_after_events (end_event e ∷ []) (after_end_moves (here in_body path false) (cond a (moves (closed ++ f ∷ []) [] left) (ends_nothing b)))
    by true b = refl
    by false true = refl
    by false false = refl

ended_more : (m n : List ℕ) (path : List Element) → is_in_svg path ≡ false → bytes_eq n m ≡ false → is_ended_by n m ≡ true → after_end_moves (here in_body (html_element n ∷ path) false) (end_moves m (html_element n ∷ path)) ≡ stepped_after_events (end n false ∷ []) (after_end_moves (here in_body path false) (end_moves m path))
unfolding end_moves
ended_more m n path out other closes = rw (out, other, closes) (end_on_more m (html_element n) path path (front (is_closed_by_end_of m) path) (rest_after (is_closed_by_end_of m) path) (is_open m path))

pub end_closes : (m n : List ℕ) (path : List Element) (drops drops' : Bool) → is_in_svg path ≡ false → holds_text n ≡ false → is_in_text path ≡ false → is_ended_by n m ≡ true
    → step (here in_body (html_element n ∷ path) drops) (tokens.end_tag m) ≡ stepped_after_events (end n false ∷ []) (step (here in_body path drops') (tokens.end_tag m))
unfolding step step_end
end_closes m n path drops drops' out holds holds' closes =
    let root = ends_no_root n m closes in
    rw (out, holds, holds', root.no_html, root.no_head, root.no_body) (ended_more m n path out (ends_is_other n m closes) closes)

pub close_agrees : (n : List ℕ) (path : List Element) (drops drops' : Bool) (x : Ahead) → is_in_svg path ≡ false → holds_text n ≡ false → is_in_text path ≡ false → Closes n x → Agree (here in_body (html_element n ∷ path) drops) (end n false ∷ []) (here in_body path drops') x
close_agrees n path drops drops' (tag (tokens.start_tag m attributes slash)) out holds holds' c = start_closes m attributes slash n path drops drops' out c
close_agrees n path drops drops' (tag (tokens.end_tag m)) out holds holds' c = end_closes m n path drops drops' out holds holds' c
close_agrees n path drops drops' (tag (tokens.doctype legacy)) out holds holds' c = absurd c
close_agrees n path drops drops' (tag (tokens.slice s)) out holds holds' c = absurd c
close_agrees n path drops drops' (tag (tokens.points ps)) out holds holds' c = absurd c
close_agrees n path drops drops' (tag (tokens.comment s)) out holds holds' c = absurd c
close_agrees n path drops drops' (point c') out holds holds' c = absurd c
close_agrees n path drops drops' finish out holds holds' c = absurd c

-- ---- A start tag that makes the element before it

made_more : (k : List ℕ) (attributes : List Attribute) (slash : Bool) (e : Element) (path : List Element)
    → after_moves attributes slash (here in_body path false) (opens_in_place k [] (e ∷ []) (e ∷ path)) ≡ stepped_after_events (start_event e ∷ []) (after_moves attributes slash (here in_body (e ∷ path) false) (opens_in_place k [] [] (e ∷ path)))
made_more k attributes slash e path = by (is_deep (e ∷ path)) (stands_on k (e ∷ path)) (is_deep (element k (bytes_eq k svg) ∷ e ∷ path))
  where
    on : List Element
    on = element k (bytes_eq k svg) ∷ e ∷ path

    by : (c d f : Bool) → after_moves attributes slash (here in_body path false) (cond c (refuses TooDeep) (cond (not d) (refuses WrongParent) (cond f (refuses TooDeep) (moves [] (e ∷ []) on))))
        ≡ stepped_after_events (start_event e ∷ []) (after_moves attributes slash (here in_body (e ∷ path) false) (cond c (refuses TooDeep) (cond (not d) (refuses WrongParent) (cond f (refuses TooDeep) (moves [] [] on)))))
    by true d f = refl
    by false false f = refl
    by false true true = refl
    by false true false = ap (stepped_after_events (start_event e ∷ [])) (sym (events_none (entered attributes slash (here in_body path false) on)))

made_start : (attributes : List Attribute) (slash : Bool) (n k t : List ℕ) (path : List Element) → is_in_svg path ≡ false → t ≡ current path → StartIsMade n k t → head_yields path k ≡ false → made_under n k ≡ []
    → start_in_body k attributes slash (here in_body path false) ≡ stepped_after_events (start n false [] ∷ []) (start_in_body k attributes slash (here in_body (html_element n ∷ path) false))
unfolding start_moves
made_start attributes slash n k t path out same s kept none =
    let f = front_kept k path kept in
    let makes : made_under (current path) k ≡ n ∷ [] = rw same at s.makes in
    rw (out, f.0, f.1, s.kept_inside, s.no_block_in_p path, s.not_nested path, s.no_block_in_p (html_element n ∷ path), s.not_nested (html_element n ∷ path), makes, none) (by (is_refused k) (is_root k) (made_more k attributes slash (html_element n) path))
  where
    by : (a b : Bool)
        → after_moves attributes slash (here in_body path false) (opens_in_place k [] (html_element n ∷ []) (html_element n ∷ path)) ≡ stepped_after_events (start n false [] ∷ []) (after_moves attributes slash (here in_body (html_element n ∷ path) false) (opens_in_place k [] [] (html_element n ∷ path)))
        → after_moves attributes slash (here in_body path false) (cond a (refuses RefusedName) (cond b (refuses SecondRoot) (opens_in_place k [] (html_element n ∷ []) (html_element n ∷ path))))
        ≡ stepped_after_events (start n false [] ∷ []) (after_moves attributes slash (here in_body (html_element n ∷ path) false) (cond a (refuses RefusedName) (cond b (refuses SecondRoot) (opens_in_place k [] [] (html_element n ∷ path)))))
    by true b h = refl
    by false true h = refl
    by false false h = h

pub start_made : (attributes : List Attribute) (slash : Bool) (n k t : List ℕ) (path : List Element) (drops drops' : Bool) → is_in_svg path ≡ false → t ≡ current path → StartIsMade n k t → head_yields path k ≡ false → made_under n k ≡ []
    → Agree (here in_body path drops) (start n false [] ∷ []) (here in_body (html_element n ∷ path) drops') (tag (tokens.start_tag k attributes slash))
unfolding step step_start
start_made attributes slash n k t path drops drops' out same s kept none = rw out (by (is_refused k) (bytes_eq k html) (bytes_eq k head) (bytes_eq k body) (made_start attributes slash n k t path out same s kept none))
  where
    st : Construction
    st = here in_body path false

    next : Construction
    next = here in_body (html_element n ∷ path) false

    by : (a b c d : Bool) → start_in_body k attributes slash st ≡ stepped_after_events (start n false [] ∷ []) (start_in_body k attributes slash next)
        → cond a (stops RefusedName 0) (cond b (stops SecondRoot 0) (cond c (stops SecondRoot 0) (cond d (stops SecondRoot 0) (start_in_body k attributes slash st))))
        ≡ stepped_after_events (start n false [] ∷ []) (cond a (stops RefusedName 0) (cond b (stops SecondRoot 0) (cond c (stops SecondRoot 0) (cond d (stops SecondRoot 0) (start_in_body k attributes slash next)))))
    by true b c d h = refl
    by false true c d h = refl
    by false false true d h = refl
    by false false false true h = refl
    by false false false false h = h
