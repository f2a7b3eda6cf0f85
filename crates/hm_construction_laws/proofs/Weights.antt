-- What a step adds to a tree: how many events and bytes at most, however it is built.
use Rattle.std.proofs.Common.{◌≡◌, ℕ, suc, ◌+◌, ◌*◌, ◌≤◌, ◌<◌, Bool, true, false, not, cond, ◌&&◌, ◌||◌, ◌==◌, List, [], ◌∷◌, ◌++◌, length, map, bytes_eq, encode_utf8_all, refl, ap, arith}
use Rattle.std.proofs.lemmas.List.{length-append}
use Rattle.hm_base.specs.Bytes.{is_space}
use Rattle.hm_base.specs.Walks.{Attribute, Event, start, comment, end, Element, attributes_size, walk_size}
use Rattle.hm_base.specs.declared.rules.Rule.{Rule}
use Rattle.hm_base.specs.declared.rules.Rule.TheVariants.{RefusedName, SecondRoot, StrayEnd, NotCurrent, WrongParent, TextHere, AfterHead, AfterBody, Unclosed, TooDeep, ForeignName, BlockInParagraph, Nested}
use Rattle.hm_elements.specs.Names.{html, head, body, svg, is_among, tr, tbody, colgroup, table, col, words}
use Rattle.hm_elements.specs.Nesting.{made_under, noscript_children}
use Rattle.hm_elements.specs.Tables.{is_metadata, is_section, is_svg_name, holds_svg_text, is_refused, is_root}
use Rattle.hm_elements.specs.Paths.{html_element, current, is_in_svg, front, rest_after, is_closed_by_start_of, is_closed_by_end_of, made_on, stands_on, is_open, is_in_text, is_in_blank, is_block_in_p, is_nested, is_deep}
use Rattle.hm_open_elements.specs.Moves.{Moves, moves, refuses, element, start_moves, end_moves, start_on, opens_in_place, opens, end_on, ends_nothing}
use Rattle.hm_tree.specs.Tokens.{Seen}
use Rattle.hm_tree.specs.Tokens as tokens
use Rattle.hm_construction_laws.specs.Weights.{weight, left, left_size, texts_size, load, load_size, cost, size_cost, span, Within, WithinAll}
use Rattle.hm_construction_laws.specs.Steps.{InsertionMode, initial, before_html, before_head, in_head, after_head, in_body, after_body, after_html, Construction, Stepped, went, stops, stepped_after_events, moved, no_drop, under_html, under_head, under_body, make_html, make_head, close_head, make_body, reach_head, reach_body, is_in_noscript, keep_byte, space_byte, body_byte, other_byte, kept_byte, step_byte, after_bytes, then_step, step_bytes, at_front, drops_after, closes_at_once, entered, end_event, start_event, starts, after_moves, start_in_body, opened, open_html, open_head_here, open_head, open_body_here, open_body, start_after_head, start_in_head, start_inside, html_start, is_outside, outside_rule, step_start, after_end_moves, end_current, end_head, is_at_end, leave_body, end_body, end_html, end_inside, html_end, end_outside, step_end, step_comment, step_doctype, step, closing, leave_page, step_over}

pub weight-append : (es fs : List Event) → weight (es ++ fs) ≡ weight es + weight fs
weight-append [] fs = omega arith
weight-append (e ∷ es) fs = let h : weight (es ++ fs) ≡ weight es + weight fs = weight-append es fs in omega arith

pub walk_size-append : (es fs : List Event) → walk_size (es ++ fs) ≡ walk_size es + walk_size fs
walk_size-append [] fs = omega arith
walk_size-append (e ∷ es) fs = let h : walk_size (es ++ fs) ≡ walk_size es + walk_size fs = walk_size-append es fs in omega arith

pub within_more : (a b m a' b' m' : ℕ) (s : Stepped) → a ≤ a' → b ≤ b' → m ≤ m' → Within a b m s → Within a' b' m' s
within_more a b m a' b' m' (went es st) h k l w = (let x : weight es + load st ≤ a = w.0 in omega arith, let y : walk_size es + load_size st ≤ b = w.1 in omega arith)
within_more a b m a' b' m' (stops rule n) h k l w = omega arith

pub within_after : (a b m : ℕ) (es : List Event) (s : Stepped) → Within a b m s → Within (weight es + a) (walk_size es + b) m (stepped_after_events es s)
within_after a b m es (went fs st) w =
    let x : weight (es ++ fs) ≡ weight es + weight fs = weight-append es fs in
    let y : walk_size (es ++ fs) ≡ walk_size es + walk_size fs = walk_size-append es fs in
    let p : weight fs + load st ≤ a = w.0 in
    let q : walk_size fs + load_size st ≤ b = w.1 in
    (omega arith, omega arith)
within_after a b m es (stops rule n) w = w

-- ---- one element is made or closed

pub html_within : (c d m : ℕ) (more : Construction → Stepped) (st : Construction) → ((s : Construction) → s.insertion_mode ≡ before_head → Within (load s + c) (load_size s + d) m (more s)) → st.insertion_mode ≡ before_html → Within (load st + c) (load_size st + d) m (make_html more st)
html_within c d m more st h e =
    let next : Construction = moved st before_head under_html in
    let w : Within (2 + (load next + c)) (4 + (load_size next + d)) m (make_html more st) = within_after (load next + c) (load_size next + d) m (start html false [] ∷ []) (more next) (h next refl) in
    within_more (2 + (load next + c)) (4 + (load_size next + d)) m (load st + c) (load_size st + d) m (make_html more st) (rw e (omega arith)) (rw e (omega arith)) (omega arith) w

pub head_within : (c d m : ℕ) (more : Construction → Stepped) (st : Construction) → ((s : Construction) → s.insertion_mode ≡ in_head → Within (load s + c) (load_size s + d) m (more s)) → st.insertion_mode ≡ before_head → Within (load st + c) (load_size st + d) m (make_head more st)
head_within c d m more st h e =
    let next : Construction = moved st in_head under_head in
    let w : Within (2 + (load next + c)) (4 + (load_size next + d)) m (make_head more st) = within_after (load next + c) (load_size next + d) m (start head false [] ∷ []) (more next) (h next refl) in
    within_more (2 + (load next + c)) (4 + (load_size next + d)) m (load st + c) (load_size st + d) m (make_head more st) (rw e (omega arith)) (rw e (omega arith)) (omega arith) w

pub close_within : (c d m : ℕ) (more : Construction → Stepped) (st : Construction) → ((s : Construction) → s.insertion_mode ≡ after_head → Within (load s + c) (load_size s + d) m (more s)) → st.insertion_mode ≡ in_head → Within (load st + c) (load_size st + d) m (close_head more st)
close_within c d m more st h e =
    let next : Construction = moved st after_head under_html in
    let w : Within (1 + (load next + c)) (0 + (load_size next + d)) m (close_head more st) = within_after (load next + c) (load_size next + d) m (end head false ∷ []) (more next) (h next refl) in
    within_more (1 + (load next + c)) (0 + (load_size next + d)) m (load st + c) (load_size st + d) m (close_head more st) (rw e (omega arith)) (rw e (omega arith)) (omega arith) w

pub body_within : (c d m : ℕ) (more : Construction → Stepped) (st : Construction) → ((s : Construction) → s.insertion_mode ≡ in_body → Within (load s + c) (load_size s + d) m (more s)) → st.insertion_mode ≡ after_head → Within (load st + c) (load_size st + d) m (make_body more st)
body_within c d m more st h e =
    let next : Construction = moved st in_body under_body in
    let w : Within (2 + (load next + c)) (4 + (load_size next + d)) m (make_body more st) = within_after (load next + c) (load_size next + d) m (start body false [] ∷ []) (more next) (h next refl) in
    within_more (2 + (load next + c)) (4 + (load_size next + d)) m (load st + c) (load_size st + d) m (make_body more st) (rw e (omega arith)) (rw e (omega arith)) (omega arith) w

-- in the body the state's insertion mode is that of the body, wherever the step began
pub reach_body_within : (c d m : ℕ) (more : Construction → Stepped) → ((s : Construction) → s.insertion_mode ≡ in_body → Within (load s + c) (load_size s + d) m (more s)) → (p : InsertionMode) (st : Construction) → st.insertion_mode ≡ p → Within (load st + c) (load_size st + d) m (reach_body p more st)
reach_body_within c d m more h initial st e = omega arith
reach_body_within c d m more h before_html st e =
    html_within c d m (make_head (close_head (make_body more))) st (λ s a. head_within c d m (close_head (make_body more)) s (λ t b. close_within c d m (make_body more) t (λ u k. body_within c d m more u h k) b) a) e
reach_body_within c d m more h before_head st e = head_within c d m (close_head (make_body more)) st (λ t b. close_within c d m (make_body more) t (λ u k. body_within c d m more u h k) b) e
reach_body_within c d m more h in_head st e = close_within c d m (make_body more) st (λ u k. body_within c d m more u h k) e
reach_body_within c d m more h after_head st e = body_within c d m more st h e
reach_body_within c d m more h in_body st e = h st e
reach_body_within c d m more h after_body st e = omega arith
reach_body_within c d m more h after_html st e = omega arith

pub reach_head_within : (c d m : ℕ) (rule : Rule) (more : Construction → Stepped) → ((s : Construction) → s.insertion_mode ≡ in_head → Within (load s + c) (load_size s + d) m (more s)) → (p : InsertionMode) (st : Construction) → st.insertion_mode ≡ p → Within (load st + c) (load_size st + d) m (reach_head p rule more st)
reach_head_within c d m rule more h initial st e = omega arith
reach_head_within c d m rule more h before_html st e = html_within c d m (make_head more) st (λ s a. head_within c d m more s h a) e
reach_head_within c d m rule more h before_head st e = head_within c d m more st h e
reach_head_within c d m rule more h in_head st e = h st e
reach_head_within c d m rule more h after_head st e = omega arith
reach_head_within c d m rule more h in_body st e = omega arith
reach_head_within c d m rule more h after_body st e = omega arith
reach_head_within c d m rule more h after_html st e = omega arith

-- ---- texts

-- one byte is one event at most, and is refused at its start
pub keep_within : (c : ℕ) (st : Construction) → Within (load st + 1) (load_size st + 1) 0 (keep_byte c st)
keep_within c st = (omega arith, omega arith)

pub space_within : (p : InsertionMode) (c : ℕ) (st : Construction) → Within (load st + 1) (load_size st + 1) 0 (space_byte p c st)
space_within initial c st = (omega arith, omega arith)
space_within before_html c st = (omega arith, omega arith)
space_within before_head c st = (omega arith, omega arith)
space_within in_head c st = keep_within c st
space_within after_head c st = keep_within c st
space_within in_body c st = keep_within c st
space_within after_body c st = keep_within c st
space_within after_html c st = keep_within c st

pub body_byte_within : (c : ℕ) (st : Construction) → Within (load st + 1) (load_size st + 1) 0 (body_byte c st)
body_byte_within c st = by (is_in_blank st.path)
  where
    by : (b : Bool) → Within (load st + 1) (load_size st + 1) 0 (cond b (stops TextHere 0) (keep_byte c st))
    by true = omega arith
    by false = keep_within c st

pub other_within : (c : ℕ) (st : Construction) → Within (load st + 1) (load_size st + 1) 0 (other_byte c st)
other_within c st = by (is_in_noscript st.insertion_mode st.path)
  where
    by : (b : Bool) → Within (load st + 1) (load_size st + 1) 0 (cond b (stops TextHere 0) (reach_body st.insertion_mode (body_byte c) st))
    by true = omega arith
    by false = reach_body_within 1 1 0 (body_byte c) (λ s e. body_byte_within c s) st.insertion_mode st refl

pub kept_within : (c : ℕ) (st : Construction) → Within (load st + 1) (load_size st + 1) 0 (kept_byte c st)
kept_within c st = by (is_in_text st.path) (is_space c)
  where
    by : (b k : Bool) → Within (load st + 1) (load_size st + 1) 0 (cond b (keep_byte c st) (cond k (space_byte st.insertion_mode c st) (other_byte c st)))
    by true k = keep_within c st
    by false true = space_within st.insertion_mode c st
    by false false = other_within c st

pub byte_within : (c : ℕ) (st : Construction) → Within (load st + 1) (load_size st + 1) 0 (step_byte c st)
unfolding step_byte
byte_within c st = by (st.drops_line_feed && c == 10)
  where
    by : (b : Bool) → Within (load st + 1) (load_size st + 1) 0 (cond b (went [] (no_drop st)) (kept_byte c (no_drop st)))
    by true = (omega arith, omega arith)
    by false = kept_within c (no_drop st)

-- a text of n bytes is n events at most, and is refused at one of them
abbrev pub WithinText : ℕ → ℕ → ℕ → Stepped → Type 0
WithinText a b n (went es st) = (weight es + load st ≤ a) × (walk_size es + load_size st ≤ b)
WithinText a b n (stops rule k) = k < n

then_within : (c : ℕ) (s : List ℕ) (st : Construction) (x : Stepped) → Within (load st + 1) (load_size st + 1) 0 x → ((next : Construction) → WithinText (load next + length s) (load_size next + length s) (length s) (step_bytes s next))
    → WithinText (load st + suc (length s)) (load_size st + suc (length s)) (suc (length s)) (then_step x (λ next. after_bytes 1 (step_bytes s next)))
then_within c s st (stops rule n) w h = omega arith
then_within c s st (went es next) w h = by (step_bytes s next) (h next)
  where
    by : (y : Stepped) → WithinText (load next + length s) (load_size next + length s) (length s) y → WithinText (load st + suc (length s)) (load_size st + suc (length s)) (suc (length s)) (stepped_after_events es (after_bytes 1 y))
    by (stops rule n) v = omega arith
    by (went fs last) v =
        let x : weight (es ++ fs) ≡ weight es + weight fs = weight-append es fs in
        let z : walk_size (es ++ fs) ≡ walk_size es + walk_size fs = walk_size-append es fs in
        let p : weight es + load next ≤ load st + 1 = w.0 in
        let q : walk_size es + load_size next ≤ load_size st + 1 = w.1 in
        let k : weight fs + load last ≤ load next + length s = v.0 in
        let l : walk_size fs + load_size last ≤ load_size next + length s = v.1 in
        (omega arith, omega arith)

pub bytes_within : (s : List ℕ) (st : Construction) → WithinText (load st + length s) (load_size st + length s) (length s) (step_bytes s st)
bytes_within [] st = (omega arith, omega arith)
bytes_within (c ∷ s) st = then_within c s st (step_byte c st) (byte_within c st) (λ next. bytes_within s next)

pub front_within : (a b n : ℕ) (x : Stepped) → WithinText a b n x → Within a b 0 (at_front x)
front_within a b n (went es st) w = w
front_within a b n (stops rule k) w = omega arith

-- ---- what opens and closes

pub ends_weight : (path : List Element) → (weight (map end_event path) ≡ length path) × (walk_size (map end_event path) ≡ 0)
ends_weight [] = (refl, refl)
ends_weight (e ∷ path) = let h : (weight (map end_event path) ≡ length path) × (walk_size (map end_event path) ≡ 0) = ends_weight path in (let x : weight (map end_event path) ≡ length path = h.0 in omega arith, let y : walk_size (map end_event path) ≡ 0 = h.1 in omega arith)

abbrev pub names_size : List Element → ℕ
names_size [] = 0
names_size (e ∷ path) = length e.name + names_size path

pub starts_weight : (path : List Element) → (weight (starts path) ≡ 2 * length path) × (walk_size (starts path) ≡ names_size path)
starts_weight [] = (refl, refl)
starts_weight (e ∷ path) =
    let h : (weight (starts path) ≡ 2 * length path) × (walk_size (starts path) ≡ names_size path) = starts_weight path in
    let x : weight (starts path) ≡ 2 * length path = h.0 in
    let y : walk_size (starts path) ≡ names_size path = h.1 in
    let p : weight (starts path ++ start_event e ∷ []) ≡ weight (starts path) + 2 = weight-append (starts path) (start_event e ∷ []) in
    let q : walk_size (starts path ++ start_event e ∷ []) ≡ walk_size (starts path) + walk_size (start_event e ∷ []) = walk_size-append (starts path) (start_event e ∷ []) in
    (omega arith, omega arith)

pub entered_within : (attributes : List Attribute) (slash : Bool) (st : Construction) (e : Element) (path : List Element)
    → Within (length path + (length st.comments_after_body + length st.comments_after_html) + left st.insertion_mode + 3) (load_size st + (length e.name + attributes_size attributes)) 0 (entered attributes slash st (e ∷ path))
entered_within attributes slash st e path = by (closes_at_once slash (e ∷ path))
  where
    by : (b : Bool) → Within (length path + (length st.comments_after_body + length st.comments_after_html) + left st.insertion_mode + 3) (load_size st + (length e.name + attributes_size attributes)) 0 (cond b (went (start e.name e.foreign attributes ∷ end e.name e.foreign ∷ []) (record st { path = path })) (went (start e.name e.foreign attributes ∷ []) (record st { path = e ∷ path; drops_line_feed = drops_after (e ∷ path) })))
    by true = (omega arith, omega arith)
    by false = (omega arith, omega arith)

-- The moves of a start tag: at most two elements are made, and its own stands innermost.
abbrev pub MovesWithin : List ℕ → ℕ → Moves → Type 0
MovesWithin n k (refuses rule) = Unit {0}
MovesWithin n k (moves closed made []) = ⊥
MovesWithin n k (moves closed made (e ∷ path)) = (length closed + length path ≤ k + length made) × (length made ≤ 2) × (names_size made ≤ 8) × (e.name ≡ n)

pub after_within : (n : List ℕ) (attributes : List Attribute) (slash : Bool) (st : Construction) (m : Moves) → MovesWithin n (length st.path) m → Within (load st + 9) (load_size st + (length n + attributes_size attributes + 8)) 0 (after_moves attributes slash st m)
after_within n attributes slash st (refuses rule) w = omega arith
after_within n attributes slash st (moves closed made []) w = absurd w
after_within n attributes slash st (moves closed made (e ∷ path)) w =
    let c : (weight (map end_event closed) ≡ length closed) × (walk_size (map end_event closed) ≡ 0) = ends_weight closed in
    let d : (weight (starts made) ≡ 2 * length made) × (walk_size (starts made) ≡ names_size made) = starts_weight made in
    let x : weight (map end_event closed ++ starts made) ≡ weight (map end_event closed) + weight (starts made) = weight-append (map end_event closed) (starts made) in
    let y : walk_size (map end_event closed ++ starts made) ≡ walk_size (map end_event closed) + walk_size (starts made) = walk_size-append (map end_event closed) (starts made) in
    let a : ℕ = length path + (length st.comments_after_body + length st.comments_after_html) + left st.insertion_mode + 3 in
    let b : ℕ = load_size st + (length e.name + attributes_size attributes) in
    let v : Within (weight (map end_event closed ++ starts made) + a) (walk_size (map end_event closed ++ starts made) + b) 0 (after_moves attributes slash st (moves closed made (e ∷ path))) = within_after a b 0 (map end_event closed ++ starts made) (entered attributes slash st (e ∷ path)) (entered_within attributes slash st e path) in
    let few : length closed + length path ≤ length st.path + length made = w.0 in
    let two : length made ≤ 2 = w.1 in
    let small : names_size made ≤ 8 = w.2 in
    let named : length e.name ≡ length n = ap length w.3 in
    let cw : weight (map end_event closed) ≡ length closed = c.0 in
    let cs : walk_size (map end_event closed) ≡ 0 = c.1 in
    let dw : weight (starts made) ≡ 2 * length made = d.0 in
    let ds : walk_size (starts made) ≡ names_size made = d.1 in
    within_more (weight (map end_event closed ++ starts made) + a) (walk_size (map end_event closed ++ starts made) + b) 0 (load st + 9) (load_size st + (length n + attributes_size attributes + 8)) 0 (after_moves attributes slash st (moves closed made (e ∷ path))) (omega arith) (omega arith) (omega arith) v

front_and_rest : (q : Element → Bool) (path : List Element) → length (front q path) + length (rest_after q path) ≡ length path
front_and_rest q [] = omega arith
front_and_rest q (e ∷ path) = by (q e) (front_and_rest q path)
  where
    by : (b : Bool) → length (front q path) + length (rest_after q path) ≡ length path → length (cond b (e ∷ front q path) []) + length (cond b (rest_after q path) (e ∷ path)) ≡ suc (length path)
    by true h = omega arith
    by false h = omega arith

-- what is made is small
abbrev pub IsSmall : List (List ℕ) → Type 0
IsSmall ns = (length (map html_element ns) ≤ 2) × (names_size (map html_element ns) ≤ 8)

small_made : (parent n : List ℕ) → IsSmall (made_under parent n)
unfolding made_under
small_made parent n = by (bytes_eq parent table) (bytes_eq n tr) (is_among n (words "td th")) (bytes_eq n col) (is_section parent && is_among n (words "td th"))
  where
    by : (a b c d e : Bool) → IsSmall (cond a (cond b (tbody ∷ []) (cond c (tr ∷ tbody ∷ []) (cond d (colgroup ∷ []) []))) (cond e (tr ∷ []) []))
    by true true c d e = (omega arith, omega arith)
    by true false true d e = (omega arith, omega arith)
    by true false false true e = (omega arith, omega arith)
    by true false false false e = (omega arith, omega arith)
    by false b c d true = (omega arith, omega arith)
    by false b c d false = (omega arith, omega arith)

opens_within : (n : List ℕ) (k : ℕ) (e : Element) (closed made path : List Element) → length closed + length path ≤ k + length made → length made ≤ 2 → names_size made ≤ 8 → e.name ≡ n → MovesWithin n k (opens e closed made path)
opens_within n k e closed made path h two small named = by (is_deep (e ∷ path))
  where
    by : (b : Bool) → MovesWithin n k (cond b (refuses TooDeep) (moves closed made (e ∷ path)))
    by true = tt
    by false = (h, two, small, named)

in_place_within : (n : List ℕ) (k : ℕ) (closed made path : List Element) → length closed + length path ≤ k + length made → length made ≤ 2 → names_size made ≤ 8 → MovesWithin n k (opens_in_place n closed made path)
in_place_within n k closed made path h two small = by (is_deep path) (not (stands_on n path))
  where
    by : (a b : Bool) → MovesWithin n k (cond a (refuses TooDeep) (cond b (refuses WrongParent) (opens (element n (bytes_eq n svg)) closed made path)))
    by true b = tt
    by false true = tt
    by false false = opens_within n k (element n (bytes_eq n svg)) closed made path h two small refl

start_on_within : (n : List ℕ) (k : ℕ) (closed path : List Element) → length closed + length path ≡ k → MovesWithin n k (start_on n closed path)
start_on_within n k closed path h = by (is_block_in_p n path) (is_nested n path)
  where
    small : IsSmall (made_under (current path) n)
    small = small_made (current path) n

    more : length (made_on n path ++ path) ≡ length (made_on n path) + length path
    more = length-append (made_on n path) path

    by : (a b : Bool) → MovesWithin n k (cond a (refuses BlockInParagraph) (cond b (refuses Nested) (opens_in_place n closed (made_on n path) (made_on n path ++ path))))
    by true b = tt
    by false true = tt
    by false false =
        let m : length (made_on n path ++ path) ≡ length (made_on n path) + length path = more in
        in_place_within n k closed (made_on n path) (made_on n path ++ path) (omega arith) small.0 small.1

pub start_moves_within : (n : List ℕ) (path : List Element) → MovesWithin n (length path) (start_moves n path)
unfolding start_moves
start_moves_within n path = by (is_in_svg path) (not (is_svg_name n)) (holds_svg_text (current path)) (is_refused n) (is_root n)
  where
    by : (a b c d e : Bool) → MovesWithin n (length path) (cond a (cond b (refuses ForeignName) (cond c (refuses WrongParent) (opens (element n true) [] [] path))) (cond d (refuses RefusedName) (cond e (refuses SecondRoot) (start_on n (front (is_closed_by_start_of n) path) (rest_after (is_closed_by_start_of n) path)))))
    by true true c d e = tt
    by true false true d e = tt
    by true false false d e = opens_within n (length path) (element n true) [] [] path (omega arith) (omega arith) (omega arith) refl
    by false b c true e = tt
    by false b c false true = tt
    by false b c false false = start_on_within n (length path) (front (is_closed_by_start_of n) path) (rest_after (is_closed_by_start_of n) path) (front_and_rest (is_closed_by_start_of n) path)

-- ---- start tags

-- what a start tag with these attributes may add
abbrev pub StartWithin : List ℕ → List Attribute → Construction → Stepped → Type 0
StartWithin n attributes st x = Within (load st + 9) (load_size st + (length n + attributes_size attributes + 8)) 0 x

pub in_body_within : (n : List ℕ) (attributes : List Attribute) (slash : Bool) (st : Construction) → StartWithin n attributes st (start_in_body n attributes slash st)
in_body_within n attributes slash st = after_within n attributes slash st (start_moves n st.path) (start_moves_within n st.path)

opened_within : (n : List ℕ) (attributes : List Attribute) (st : Construction) → StartWithin n attributes st (opened n attributes st)
opened_within n attributes st =
    within_more (length st.path + (length st.comments_after_body + length st.comments_after_html) + left st.insertion_mode + 3) (load_size st + (length n + attributes_size attributes)) 0 (load st + 9) (load_size st + (length n + attributes_size attributes + 8)) 0 (opened n attributes st) (omega arith) (omega arith) (omega arith)
    (entered_within attributes false st (html_element n) st.path)

after_head_within : (n : List ℕ) (attributes : List Attribute) (slash : Bool) (st : Construction) → st.insertion_mode ≡ after_head → StartWithin n attributes st (start_after_head n attributes slash st)
after_head_within n attributes slash st e = by (is_metadata n)
  where
    by : (b : Bool) → StartWithin n attributes st (cond b (stops AfterHead 0) (make_body (start_in_body n attributes slash) st))
    by true = omega arith
    by false = body_within 9 (length n + attributes_size attributes + 8) 0 (start_in_body n attributes slash) st (λ s h. in_body_within n attributes slash s) e

in_head_within : (n : List ℕ) (attributes : List Attribute) (slash : Bool) (st : Construction) → st.insertion_mode ≡ in_head → StartWithin n attributes st (start_in_head n attributes slash st)
in_head_within n attributes slash st e = by (is_in_noscript in_head st.path) (is_among n noscript_children) (stands_on n st.path)
  where
    by : (a b c : Bool) → StartWithin n attributes st (cond a (cond b (opened n attributes st) (stops WrongParent 0)) (cond c (opened n attributes st) (close_head (start_after_head n attributes slash) st)))
    by true true c = opened_within n attributes st
    by true false c = omega arith
    by false b true = opened_within n attributes st
    by false b false = close_within 9 (length n + attributes_size attributes + 8) 0 (start_after_head n attributes slash) st (λ s h. after_head_within n attributes slash s h) e

inside_within : (n : List ℕ) (attributes : List Attribute) (slash : Bool) (p : InsertionMode) (st : Construction) → st.insertion_mode ≡ p → StartWithin n attributes st (start_inside p n attributes slash st)
inside_within n attributes slash initial st e = in_body_within n attributes slash st
inside_within n attributes slash before_html st e = html_within 9 (length n + attributes_size attributes + 8) 0 (make_head (start_in_head n attributes slash)) st (λ s a. head_within 9 (length n + attributes_size attributes + 8) 0 (start_in_head n attributes slash) s (λ t b. in_head_within n attributes slash t b) a) e
inside_within n attributes slash before_head st e = head_within 9 (length n + attributes_size attributes + 8) 0 (start_in_head n attributes slash) st (λ t b. in_head_within n attributes slash t b) e
inside_within n attributes slash in_head st e = in_head_within n attributes slash st e
inside_within n attributes slash after_head st e = after_head_within n attributes slash st e
inside_within n attributes slash in_body st e = in_body_within n attributes slash st
inside_within n attributes slash after_body st e = in_body_within n attributes slash st
inside_within n attributes slash after_html st e = in_body_within n attributes slash st

open_html_within : (n : List ℕ) (attributes : List Attribute) (p : InsertionMode) (st : Construction) → st.insertion_mode ≡ p → StartWithin n attributes st (open_html p attributes st)
open_html_within n attributes initial st e = omega arith
open_html_within n attributes before_html st e = rw e (omega arith, omega arith)
open_html_within n attributes before_head st e = omega arith
open_html_within n attributes in_head st e = omega arith
open_html_within n attributes after_head st e = omega arith
open_html_within n attributes in_body st e = omega arith
open_html_within n attributes after_body st e = omega arith
open_html_within n attributes after_html st e = omega arith

head_here_within : (n : List ℕ) (attributes : List Attribute) (st : Construction) → st.insertion_mode ≡ before_head → StartWithin n attributes st (open_head_here attributes st)
head_here_within n attributes st e = rw e (omega arith, omega arith)

open_head_within : (n : List ℕ) (attributes : List Attribute) (p : InsertionMode) (st : Construction) → st.insertion_mode ≡ p → StartWithin n attributes st (open_head p attributes st)
open_head_within n attributes initial st e = omega arith
open_head_within n attributes before_html st e = html_within 9 (length n + attributes_size attributes + 8) 0 (open_head_here attributes) st (λ s h. head_here_within n attributes s h) e
open_head_within n attributes before_head st e = head_here_within n attributes st e
open_head_within n attributes in_head st e = omega arith
open_head_within n attributes after_head st e = omega arith
open_head_within n attributes in_body st e = omega arith
open_head_within n attributes after_body st e = omega arith
open_head_within n attributes after_html st e = omega arith

body_here_within : (n : List ℕ) (attributes : List Attribute) (st : Construction) → st.insertion_mode ≡ after_head → StartWithin n attributes st (open_body_here attributes st)
body_here_within n attributes st e = rw e (omega arith, omega arith)

body_after_head : (n : List ℕ) (attributes : List Attribute) (st : Construction) → st.insertion_mode ≡ in_head → StartWithin n attributes st (close_head (open_body_here attributes) st)
body_after_head n attributes st e = close_within 9 (length n + attributes_size attributes + 8) 0 (open_body_here attributes) st (λ s h. body_here_within n attributes s h) e

open_body_within : (n : List ℕ) (attributes : List Attribute) (p : InsertionMode) (st : Construction) → st.insertion_mode ≡ p → StartWithin n attributes st (open_body p attributes st)
open_body_within n attributes initial st e = omega arith
open_body_within n attributes before_html st e = html_within 9 (length n + attributes_size attributes + 8) 0 (make_head (close_head (open_body_here attributes))) st (λ s a. head_within 9 (length n + attributes_size attributes + 8) 0 (close_head (open_body_here attributes)) s (λ t b. body_after_head n attributes t b) a) e
open_body_within n attributes before_head st e = head_within 9 (length n + attributes_size attributes + 8) 0 (close_head (open_body_here attributes)) st (λ t b. body_after_head n attributes t b) e
open_body_within n attributes in_head st e = by (is_in_noscript in_head st.path)
  where
    by : (b : Bool) → StartWithin n attributes st (cond b (stops SecondRoot 0) (close_head (open_body_here attributes) st))
    by true = omega arith
    by false = body_after_head n attributes st e
open_body_within n attributes after_head st e = body_here_within n attributes st e
open_body_within n attributes in_body st e = omega arith
open_body_within n attributes after_body st e = omega arith
open_body_within n attributes after_html st e = omega arith

html_start_within : (n : List ℕ) (attributes : List Attribute) (slash : Bool) (st : Construction) → StartWithin n attributes st (html_start n attributes slash st)
html_start_within n attributes slash st = by (is_refused n) (bytes_eq n html) (bytes_eq n head) (bytes_eq n body)
  where
    by : (a b c d : Bool) → StartWithin n attributes st (cond a (stops RefusedName 0) (cond b (open_html st.insertion_mode attributes st) (cond c (open_head st.insertion_mode attributes st) (cond d (open_body st.insertion_mode attributes st) (start_inside st.insertion_mode n attributes slash st)))))
    by true b c d = omega arith
    by false true c d = open_html_within n attributes st.insertion_mode st refl
    by false false true d = open_head_within n attributes st.insertion_mode st refl
    by false false false true = open_body_within n attributes st.insertion_mode st refl
    by false false false false = inside_within n attributes slash st.insertion_mode st refl

pub start_within : (n : List ℕ) (attributes : List Attribute) (slash : Bool) (st : Construction) → StartWithin n attributes st (step_start n attributes slash st)
unfolding step_start
start_within n attributes slash st = by (is_outside st.insertion_mode) (is_in_svg st.path)
  where
    by : (a b : Bool) → StartWithin n attributes st (cond a (stops (outside_rule st.insertion_mode) 0) (cond b (start_in_body n attributes slash st) (html_start n attributes slash st)))
    by true b = omega arith
    by false true = in_body_within n attributes slash st
    by false false = html_start_within n attributes slash st

-- ---- end tags, which add nothing but what is missing

abbrev pub EndWithin : Construction → Stepped → Type 0
EndWithin st x = Within (load st + 0) (load_size st + 0) 0 x

end_current_within : (n : List ℕ) (st : Construction) (path : List Element) → length path ≡ length st.path → EndWithin st (end_current n st path)
end_current_within n st [] h = omega arith
end_current_within n st (e ∷ path) h = by (bytes_eq e.name n) (is_open n (e ∷ path))
  where
    by : (a b : Bool) → EndWithin st (cond a (went (end_event e ∷ []) (record st { path = path })) (cond b (stops NotCurrent 0) (stops StrayEnd 0)))
    by true b = (omega arith, omega arith)
    by false true = omega arith
    by false false = omega arith

-- The moves of an end tag: nothing is made.
abbrev pub ClosesWithin : ℕ → Moves → Type 0
ClosesWithin k (refuses rule) = Unit {0}
ClosesWithin k (moves closed made path) = length closed + length path ≤ k

ends_nothing_within : (k : ℕ) (b : Bool) → ClosesWithin k (ends_nothing b)
ends_nothing_within k true = tt
ends_nothing_within k false = tt

end_on_within : (n : List ℕ) (k : ℕ) (closed path : List Element) (somewhere : Bool) → length closed + length path ≡ k → ClosesWithin k (end_on n closed path somewhere)
end_on_within n k closed [] somewhere h = ends_nothing_within k somewhere
end_on_within n k closed (e ∷ path) somewhere h = by (bytes_eq e.name n)
  where
    more : length (closed ++ e ∷ []) ≡ length closed + 1
    more = length-append closed (e ∷ [])

    by : (b : Bool) → ClosesWithin k (cond b (moves (closed ++ e ∷ []) [] path) (ends_nothing somewhere))
    by true = let m : length (closed ++ e ∷ []) ≡ length closed + 1 = more in omega arith
    by false = ends_nothing_within k somewhere

end_moves_within : (n : List ℕ) (path : List Element) → ClosesWithin (length path) (end_moves n path)
unfolding end_moves
end_moves_within n path = by (is_in_svg path)
  where
    by : (b : Bool) → ClosesWithin (length path) (cond b (end_on n [] path (is_open n path)) (end_on n (front (is_closed_by_end_of n) path) (rest_after (is_closed_by_end_of n) path) (is_open n path)))
    by true = end_on_within n (length path) [] path (is_open n path) (omega arith)
    by false = end_on_within n (length path) (front (is_closed_by_end_of n) path) (rest_after (is_closed_by_end_of n) path) (is_open n path) (front_and_rest (is_closed_by_end_of n) path)

after_end_within : (st : Construction) (m : Moves) → ClosesWithin (length st.path) m → EndWithin st (after_end_moves st m)
after_end_within st (refuses rule) w = omega arith
after_end_within st (moves closed made path) w =
    let c : (weight (map end_event closed) ≡ length closed) × (walk_size (map end_event closed) ≡ 0) = ends_weight closed in
    let cw : weight (map end_event closed) ≡ length closed = c.0 in
    let cs : walk_size (map end_event closed) ≡ 0 = c.1 in
    (omega arith, omega arith)

leave_within : (p : InsertionMode) (st : Construction) → left p ≡ 0 → left_size p ≡ 0 → EndWithin st (leave_body p st)
leave_within p st h k = by (is_at_end st.path)
  where
    by : (b : Bool) → EndWithin st (cond b (went [] (record st { insertion_mode = p })) (stops Unclosed 0))
    by true = (omega arith, omega arith)
    by false = omega arith

end_head_within : (p : InsertionMode) (st : Construction) → st.insertion_mode ≡ p → EndWithin st (end_head p st)
end_head_within p st e = reach_head_within 0 0 0 StrayEnd (λ here. went (end head false ∷ []) (moved here after_head under_html)) (λ s h. rw h (omega arith, omega arith)) p st e

end_body_within : (p : InsertionMode) (st : Construction) → st.insertion_mode ≡ p → EndWithin st (end_body p st)
end_body_within p st e = reach_body_within 0 0 0 (leave_body after_body) (λ s h. leave_within after_body s refl refl) p st e

end_html_within : (p : InsertionMode) (st : Construction) → st.insertion_mode ≡ p → EndWithin st (end_html p st)
end_html_within initial st e = omega arith
end_html_within before_html st e = reach_body_within 0 0 0 (leave_body after_html) (λ s h. leave_within after_html s refl refl) before_html st e
end_html_within before_head st e = reach_body_within 0 0 0 (leave_body after_html) (λ s h. leave_within after_html s refl refl) before_head st e
end_html_within in_head st e = reach_body_within 0 0 0 (leave_body after_html) (λ s h. leave_within after_html s refl refl) in_head st e
end_html_within after_head st e = reach_body_within 0 0 0 (leave_body after_html) (λ s h. leave_within after_html s refl refl) after_head st e
end_html_within in_body st e = reach_body_within 0 0 0 (leave_body after_html) (λ s h. leave_within after_html s refl refl) in_body st e
end_html_within after_body st e = (omega arith, omega arith)
end_html_within after_html st e = omega arith

end_inside_within : (n : List ℕ) (p : InsertionMode) (st : Construction) → EndWithin st (end_inside p n st)
end_inside_within n in_body st = after_end_within st (end_moves n st.path) (end_moves_within n st.path)
end_inside_within n initial st = omega arith
end_inside_within n before_html st = omega arith
end_inside_within n before_head st = omega arith
end_inside_within n in_head st = omega arith
end_inside_within n after_head st = omega arith
end_inside_within n after_body st = omega arith
end_inside_within n after_html st = omega arith

html_end_within : (n : List ℕ) (st : Construction) → EndWithin st (html_end n st)
html_end_within n st = by (bytes_eq n head) (bytes_eq n body) (bytes_eq n html)
  where
    by : (a b c : Bool) → EndWithin st (cond a (end_head st.insertion_mode st) (cond b (end_body st.insertion_mode st) (cond c (end_html st.insertion_mode st) (end_inside st.insertion_mode n st))))
    by true b c = end_head_within st.insertion_mode st refl
    by false true c = end_body_within st.insertion_mode st refl
    by false false true = end_html_within st.insertion_mode st refl
    by false false false = end_inside_within n st.insertion_mode st

outside_within : (n : List ℕ) (p : InsertionMode) (st : Construction) → EndWithin st (end_outside p n st)
outside_within n after_body st = by (bytes_eq n html)
  where
    by : (b : Bool) → EndWithin st (cond b (end_html after_body st) (stops AfterBody 0))
    by true = (omega arith, omega arith)
    by false = omega arith
outside_within n initial st = omega arith
outside_within n before_html st = omega arith
outside_within n before_head st = omega arith
outside_within n in_head st = omega arith
outside_within n after_head st = omega arith
outside_within n in_body st = omega arith
outside_within n after_html st = omega arith

pub end_within : (n : List ℕ) (st : Construction) → EndWithin st (step_end n st)
unfolding step_end
end_within n st = by (is_in_text st.path) (is_outside st.insertion_mode) (is_in_svg st.path || is_in_noscript st.insertion_mode st.path)
  where
    by : (a b c : Bool) → EndWithin st (cond a (end_current n st st.path) (cond b (end_outside st.insertion_mode n st) (cond c (end_current n st st.path) (html_end n st))))
    by true b c = end_current_within n st st.path refl
    by false true c = outside_within n st.insertion_mode st
    by false false true = end_current_within n st st.path refl
    by false false false = html_end_within n st

-- ---- a token

doctype_within : (legacy : Bool) (p : InsertionMode) (st : Construction) → st.insertion_mode ≡ p → Within (load st + 1) (load_size st + 0) 0 (step_doctype p legacy st)
doctype_within legacy initial st e = rw e (omega arith, omega arith)
doctype_within legacy before_html st e = omega arith
doctype_within legacy before_head st e = omega arith
doctype_within legacy in_head st e = omega arith
doctype_within legacy after_head st e = omega arith
doctype_within legacy in_body st e = omega arith
doctype_within legacy after_body st e = omega arith
doctype_within legacy after_html st e = omega arith

texts_size-append : (ss ts : List (List ℕ)) → texts_size (ss ++ ts) ≡ texts_size ss + texts_size ts
texts_size-append [] ts = omega arith
texts_size-append (s ∷ ss) ts = let h : texts_size (ss ++ ts) ≡ texts_size ss + texts_size ts = texts_size-append ss ts in omega arith

comment_within : (s : List ℕ) (p : InsertionMode) (st : Construction) → Within (load st + 1) (load_size st + length s) 0 (step_comment p s st)
comment_within s after_body st =
    let a : length (st.comments_after_body ++ s ∷ []) ≡ length st.comments_after_body + 1 = length-append st.comments_after_body (s ∷ []) in
    let b : texts_size (st.comments_after_body ++ s ∷ []) ≡ texts_size st.comments_after_body + texts_size (s ∷ []) = texts_size-append st.comments_after_body (s ∷ []) in
    (omega arith, omega arith)
comment_within s after_html st =
    let a : length (st.comments_after_html ++ s ∷ []) ≡ length st.comments_after_html + 1 = length-append st.comments_after_html (s ∷ []) in
    let b : texts_size (st.comments_after_html ++ s ∷ []) ≡ texts_size st.comments_after_html + texts_size (s ∷ []) = texts_size-append st.comments_after_html (s ∷ []) in
    (omega arith, omega arith)
comment_within s initial st = (omega arith, omega arith)
comment_within s before_html st = (omega arith, omega arith)
comment_within s before_head st = (omega arith, omega arith)
comment_within s in_head st = (omega arith, omega arith)
comment_within s after_head st = (omega arith, omega arith)
comment_within s in_body st = (omega arith, omega arith)

text_is_within : (a b n : ℕ) (x : Stepped) → WithinText a b n x → Within a b n x
text_is_within a b n (went es st) w = w
text_is_within a b n (stops rule k) w = omega arith

pub step_within : (st : Construction) (token : Seen) → Within (load st + cost token) (load_size st + size_cost token) (span token) (step st token)
unfolding step
step_within st (tokens.doctype legacy) = doctype_within legacy st.insertion_mode (no_drop st) refl
step_within st (tokens.start_tag n attributes slash) = start_within n attributes slash (no_drop st)
step_within st (tokens.end_tag n) = end_within n (no_drop st)
step_within st (tokens.slice s) = text_is_within (load st + length s) (load_size st + length s) (length s) (step_bytes s st) (bytes_within s st)
step_within st (tokens.points ps) = front_within (load st + length (encode_utf8_all ps)) (load_size st + length (encode_utf8_all ps)) (length (encode_utf8_all ps)) (step_bytes (encode_utf8_all ps) st) (bytes_within (encode_utf8_all ps) st)
step_within st (tokens.comment s) = comment_within s st.insertion_mode (no_drop st)

-- ---- the end of the page

comments_weight : (ss : List (List ℕ)) → (weight (map comment ss) ≡ length ss) × (walk_size (map comment ss) ≡ texts_size ss)
comments_weight [] = (refl, refl)
comments_weight (s ∷ ss) =
    let h : (weight (map comment ss) ≡ length ss) × (walk_size (map comment ss) ≡ texts_size ss) = comments_weight ss in
    let x : weight (map comment ss) ≡ length ss = h.0 in
    let y : walk_size (map comment ss) ≡ texts_size ss = h.1 in
    (omega arith, omega arith)

closing_weight : (path : List Element) (inner last : List (List ℕ)) → (weight (closing path inner last) ≡ length path + (length inner + length last)) × (walk_size (closing path inner last) ≡ texts_size inner + texts_size last)
closing_weight [] inner last =
    let x : weight (map comment inner ++ map comment last) ≡ weight (map comment inner) + weight (map comment last) = weight-append (map comment inner) (map comment last) in
    let y : walk_size (map comment inner ++ map comment last) ≡ walk_size (map comment inner) + walk_size (map comment last) = walk_size-append (map comment inner) (map comment last) in
    let a : weight (map comment inner) ≡ length inner = (comments_weight inner).0 in
    let b : weight (map comment last) ≡ length last = (comments_weight last).0 in
    let c : walk_size (map comment inner) ≡ texts_size inner = (comments_weight inner).1 in
    let d : walk_size (map comment last) ≡ texts_size last = (comments_weight last).1 in
    (omega arith, omega arith)
closing_weight (e ∷ []) inner last =
    let x : weight (map comment inner ++ end_event e ∷ map comment last) ≡ weight (map comment inner) + weight (end_event e ∷ map comment last) = weight-append (map comment inner) (end_event e ∷ map comment last) in
    let y : walk_size (map comment inner ++ end_event e ∷ map comment last) ≡ walk_size (map comment inner) + walk_size (end_event e ∷ map comment last) = walk_size-append (map comment inner) (end_event e ∷ map comment last) in
    let a : weight (map comment inner) ≡ length inner = (comments_weight inner).0 in
    let b : weight (map comment last) ≡ length last = (comments_weight last).0 in
    let c : walk_size (map comment inner) ≡ texts_size inner = (comments_weight inner).1 in
    let d : walk_size (map comment last) ≡ texts_size last = (comments_weight last).1 in
    (omega arith, omega arith)
closing_weight (e ∷ f ∷ path) inner last =
    let h : (weight (closing (f ∷ path) inner last) ≡ length (f ∷ path) + (length inner + length last)) × (walk_size (closing (f ∷ path) inner last) ≡ texts_size inner + texts_size last) = closing_weight (f ∷ path) inner last in
    let x : weight (closing (f ∷ path) inner last) ≡ length (f ∷ path) + (length inner + length last) = h.0 in
    let y : walk_size (closing (f ∷ path) inner last) ≡ texts_size inner + texts_size last = h.1 in
    (omega arith, omega arith)

leave_page_within : (p : InsertionMode) (st : Construction) → st.insertion_mode ≡ p → EndWithin st (leave_page p st)
leave_page_within after_body st e = (omega arith, omega arith)
leave_page_within after_html st e = (omega arith, omega arith)
leave_page_within initial st e = by (is_in_noscript initial st.path)
  where
    by : (b : Bool) → EndWithin st (cond b (stops Unclosed 0) (reach_body initial (leave_body after_html) st))
    by true = omega arith
    by false = omega arith
leave_page_within before_html st e = by (is_in_noscript before_html st.path)
  where
    by : (b : Bool) → EndWithin st (cond b (stops Unclosed 0) (reach_body before_html (leave_body after_html) st))
    by true = omega arith
    by false = reach_body_within 0 0 0 (leave_body after_html) (λ s h. leave_within after_html s refl refl) before_html st e
leave_page_within before_head st e = by (is_in_noscript before_head st.path)
  where
    by : (b : Bool) → EndWithin st (cond b (stops Unclosed 0) (reach_body before_head (leave_body after_html) st))
    by true = omega arith
    by false = reach_body_within 0 0 0 (leave_body after_html) (λ s h. leave_within after_html s refl refl) before_head st e
leave_page_within in_head st e = by (is_in_noscript in_head st.path)
  where
    by : (b : Bool) → EndWithin st (cond b (stops Unclosed 0) (reach_body in_head (leave_body after_html) st))
    by true = omega arith
    by false = reach_body_within 0 0 0 (leave_body after_html) (λ s h. leave_within after_html s refl refl) in_head st e
leave_page_within after_head st e = by (is_in_noscript after_head st.path)
  where
    by : (b : Bool) → EndWithin st (cond b (stops Unclosed 0) (reach_body after_head (leave_body after_html) st))
    by true = omega arith
    by false = reach_body_within 0 0 0 (leave_body after_html) (λ s h. leave_within after_html s refl refl) after_head st e
leave_page_within in_body st e = by (is_in_noscript in_body st.path)
  where
    by : (b : Bool) → EndWithin st (cond b (stops Unclosed 0) (reach_body in_body (leave_body after_html) st))
    by true = omega arith
    by false = reach_body_within 0 0 0 (leave_body after_html) (λ s h. leave_within after_html s refl refl) in_body st e

pub over_within : (st : Construction) → WithinAll (load st) (load_size st) (step_over st)
unfolding step_over
over_within st = by (is_in_text st.path) (leave_page st.insertion_mode st) refl refl (leave_page_within st.insertion_mode st refl)
  where
    by : (b : Bool) (x : Stepped) → is_in_text st.path ≡ b → leave_page st.insertion_mode st ≡ x → EndWithin st x → WithinAll (load st) (load_size st) (step_over st)
    by true x e f w = rw e refl
    by false (stops rule n) e f w = rw (e, f) (omega arith)
    by false (went es at_end) e f w =
        let c : (weight (closing at_end.path at_end.comments_after_body at_end.comments_after_html) ≡ length at_end.path + (length at_end.comments_after_body + length at_end.comments_after_html)) × (walk_size (closing at_end.path at_end.comments_after_body at_end.comments_after_html) ≡ texts_size at_end.comments_after_body + texts_size at_end.comments_after_html) = closing_weight at_end.path at_end.comments_after_body at_end.comments_after_html in
        let x : weight (es ++ closing at_end.path at_end.comments_after_body at_end.comments_after_html) ≡ weight es + weight (closing at_end.path at_end.comments_after_body at_end.comments_after_html) = weight-append es (closing at_end.path at_end.comments_after_body at_end.comments_after_html) in
        let y : walk_size (es ++ closing at_end.path at_end.comments_after_body at_end.comments_after_html) ≡ walk_size es + walk_size (closing at_end.path at_end.comments_after_body at_end.comments_after_html) = walk_size-append es (closing at_end.path at_end.comments_after_body at_end.comments_after_html) in
        let a : weight es + load at_end ≤ load st + 0 = w.0 in
        let b : walk_size es + load_size at_end ≤ load_size st + 0 = w.1 in
        let p : weight (closing at_end.path at_end.comments_after_body at_end.comments_after_html) ≡ length at_end.path + (length at_end.comments_after_body + length at_end.comments_after_html) = c.0 in
        let q : walk_size (closing at_end.path at_end.comments_after_body at_end.comments_after_html) ≡ texts_size at_end.comments_after_body + texts_size at_end.comments_after_html = c.1 in
        rw (e, f) (omega arith, omega arith)
