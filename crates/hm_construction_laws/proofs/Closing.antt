-- Only an end tag closes body.
use Rattle.std.proofs.Common.{◌≡◌, ℕ, Bool, true, false, cond, ◌&&◌, ◌==◌, List, [], ◌∷◌, ◌++◌, map, refl, bytes_eq, encode_utf8_all}
use Rattle.hm_base.specs.Bytes.{is_space}
use Rattle.hm_base.specs.Walks.{Attribute, Event, start, end, Element}
use Rattle.hm_base.specs.declared.rules.Rule.TheVariants.{TextHere, RefusedName, SecondRoot, AfterHead, WrongParent}
use Rattle.hm_elements.specs.Names.{is_among, html, head, body}
use Rattle.hm_elements.specs.Nesting.{noscript_children}
use Rattle.hm_elements.specs.Paths.{html_element, is_in_svg, is_in_text, is_in_blank, stands_on}
use Rattle.hm_elements.specs.Tables.{is_refused, is_metadata}
use Rattle.hm_open_elements.specs.Moves.{Moves, moves, refuses, start_moves}
use Rattle.hm_tree.specs.Tokens.{Seen}
use Rattle.hm_tree.specs.Tokens as tokens
use Rattle.hm_construction_laws.specs.Closing.{is_after_body}
use Rattle.hm_construction_laws.specs.Steps.{InsertionMode, initial, before_html, before_head, in_head, after_head, in_body, after_body, after_html, Construction, Stepped, went, stops, stepped_after_events, after_bytes as after_refusal, then_step, at_front, no_drop, step_byte, step_bytes, step, keep_byte, space_byte, is_in_noscript, reach_body, body_byte, moved, under_html, under_head, under_body, make_head, close_head, make_body, closes_at_once, entered, drops_after, end_event, starts, after_moves, start_in_body, opened, open_html, open_head, open_body_here, open_body, start_after_head, start_in_noscript, start_in_head, start_inside, is_outside, outside_rule, step_start, step_comment, step_doctype}

-- the step doesn't lead after body
abbrev pub StaysOpen : Stepped → Type 0
StaysOpen (went es st) = is_after_body st.insertion_mode ≡ false
StaysOpen (stops rule n) = Unit {0}

later_open : (es : List Event) (o : Stepped) → StaysOpen o → StaysOpen (stepped_after_events es o)
later_open es (went fs st) h = h
later_open es (stops rule n) h = tt

body_open : (c : ℕ) (st : Construction) → is_after_body st.insertion_mode ≡ false → StaysOpen (body_byte c st)
body_open c st h = by (is_in_blank st.path)
  where
    by : (b : Bool) → StaysOpen (cond b (stops TextHere 0) (keep_byte c st))
    by true = tt
    by false = h

from_head : (c : ℕ) (st : Construction) → StaysOpen (make_body (body_byte c) st)
from_head c st = later_open (start body false [] ∷ []) (body_byte c (moved st in_body under_body)) (body_open c (moved st in_body under_body) refl)

in_head_open : (c : ℕ) (st : Construction) → StaysOpen (close_head (make_body (body_byte c)) st)
in_head_open c st = later_open (end head false ∷ []) (make_body (body_byte c) (moved st after_head under_html)) (from_head c (moved st after_head under_html))

before_head_open : (c : ℕ) (st : Construction) → StaysOpen (make_head (close_head (make_body (body_byte c))) st)
before_head_open c st = later_open (start head false [] ∷ []) (close_head (make_body (body_byte c)) (moved st in_head under_head)) (in_head_open c (moved st in_head under_head))

reach_open : (mode : InsertionMode) (c : ℕ) (st : Construction) → is_after_body st.insertion_mode ≡ false → StaysOpen (reach_body mode (body_byte c) st)
reach_open initial c st h = tt
reach_open before_html c st h = later_open (start html false [] ∷ []) (make_head (close_head (make_body (body_byte c))) (moved st before_head under_html)) (before_head_open c (moved st before_head under_html))
reach_open before_head c st h = before_head_open c st
reach_open in_head c st h = in_head_open c st
reach_open after_head c st h = from_head c st
reach_open in_body c st h = body_open c st h
reach_open after_body c st h = tt
reach_open after_html c st h = tt

space_open : (mode : InsertionMode) (c : ℕ) (st : Construction) → is_after_body st.insertion_mode ≡ false → StaysOpen (space_byte mode c st)
space_open initial c st h = h
space_open before_html c st h = h
space_open before_head c st h = h
space_open in_head c st h = h
space_open after_head c st h = h
space_open in_body c st h = h
space_open after_body c st h = h
space_open after_html c st h = h

byte_open : (c : ℕ) (st : Construction) → is_after_body st.insertion_mode ≡ false → StaysOpen (step_byte c st)
unfolding step_byte
byte_open c st h = by (st.drops_line_feed && c == 10) (is_in_text st.path) (is_space c) (is_in_noscript st.insertion_mode st.path)
  where
    by : (a b d e : Bool) → StaysOpen (cond a (went [] (no_drop st)) (cond b (keep_byte c (no_drop st)) (cond d (space_byte st.insertion_mode c (no_drop st)) (cond e (stops TextHere 0) (reach_body st.insertion_mode (body_byte c) (no_drop st))))))
    by true b d e = h
    by false true d e = h
    by false false true e = space_open st.insertion_mode c (no_drop st) h
    by false false false true = tt
    by false false false false = reach_open st.insertion_mode c (no_drop st) h

pub bytes_open : (s : List ℕ) (st : Construction) → is_after_body st.insertion_mode ≡ false → StaysOpen (step_bytes s st)
bytes_open [] st h = h
bytes_open (c ∷ s) st h = by (step_byte c st) (byte_open c st h) (λ next k. bytes_open s next k)
  where
    later : (o : Stepped) → StaysOpen o → StaysOpen (after_refusal 1 o)
    later (went es next) k = k
    later (stops rule n) k = tt

    by : (o : Stepped) → StaysOpen o → ((next : Construction) → is_after_body next.insertion_mode ≡ false → StaysOpen (step_bytes s next)) → StaysOpen (then_step o (λ next. after_refusal 1 (step_bytes s next)))
    by (went es next) k more = later_open es (after_refusal 1 (step_bytes s next)) (later (step_bytes s next) (more next k))
    by (stops rule n) k more = tt

-- ---- Start tags

entered_open : (attributes : List Attribute) (slash : Bool) (st : Construction) (path : List Element) → is_after_body st.insertion_mode ≡ false → StaysOpen (entered attributes slash st path)
entered_open attributes slash st [] h = h
entered_open attributes slash st (e ∷ path) h = by (closes_at_once slash (e ∷ path))
  where
    by : (b : Bool) → StaysOpen (cond b (went (start e.name e.foreign attributes ∷ end e.name e.foreign ∷ []) (record st { path = path })) (went (start e.name e.foreign attributes ∷ []) (record st { path = e ∷ path; drops_line_feed = drops_after (e ∷ path) })))
    by true = h
    by false = h

start_in_body_open : (n : List ℕ) (attributes : List Attribute) (slash : Bool) (st : Construction) → is_after_body st.insertion_mode ≡ false → StaysOpen (start_in_body n attributes slash st)
start_in_body_open n attributes slash st h = by (start_moves n st.path)
  where
    by : (m : Moves) → StaysOpen (after_moves attributes slash st m)
    by (moves closed made path) = later_open (map end_event closed ++ starts made) (entered attributes slash st path) (entered_open attributes slash st path h)
    by (refuses rule) = tt

html_open : (mode : InsertionMode) (attributes : List Attribute) (st : Construction) → StaysOpen (open_html mode attributes st)
html_open initial attributes st = tt
html_open before_html attributes st = refl
html_open before_head attributes st = tt
html_open in_head attributes st = tt
html_open after_head attributes st = tt
html_open in_body attributes st = tt
html_open after_body attributes st = tt
html_open after_html attributes st = tt

head_open : (mode : InsertionMode) (attributes : List Attribute) (st : Construction) → StaysOpen (open_head mode attributes st)
head_open initial attributes st = tt
head_open before_html attributes st = refl
head_open before_head attributes st = refl
head_open in_head attributes st = tt
head_open after_head attributes st = tt
head_open in_body attributes st = tt
head_open after_body attributes st = tt
head_open after_html attributes st = tt

body_tag_open : (mode : InsertionMode) (attributes : List Attribute) (st : Construction) → StaysOpen (open_body mode attributes st)
body_tag_open initial attributes st = tt
body_tag_open before_html attributes st = refl
body_tag_open before_head attributes st = refl
body_tag_open in_head attributes st = by (is_in_noscript in_head st.path)
  where
    by : (b : Bool) → StaysOpen (cond b (stops SecondRoot 0) (close_head (open_body_here attributes) st))
    by true = tt
    by false = refl
body_tag_open after_head attributes st = refl
body_tag_open in_body attributes st = tt
body_tag_open after_body attributes st = tt
body_tag_open after_html attributes st = tt

module _ (n : List ℕ) (attributes : List Attribute) (slash : Bool) where
  after_head_open : (st : Construction) → StaysOpen (start_after_head n attributes slash st)
  after_head_open st = by (is_metadata n)
    where
      by : (b : Bool) → StaysOpen (cond b (stops AfterHead 0) (make_body (start_in_body n attributes slash) st))
      by true = tt
      by false = later_open (start body false [] ∷ []) (start_in_body n attributes slash (moved st in_body under_body)) (start_in_body_open n attributes slash (moved st in_body under_body) refl)

  in_noscript_open : (st : Construction) → is_after_body st.insertion_mode ≡ false → StaysOpen (start_in_noscript n attributes st)
  in_noscript_open st h = by (is_among n noscript_children)
    where
      by : (b : Bool) → StaysOpen (cond b (opened n attributes st) (stops WrongParent 0))
      by true = entered_open attributes false st (html_element n ∷ st.path) h
      by false = tt

  start_in_head_open : (st : Construction) → is_after_body st.insertion_mode ≡ false → StaysOpen (start_in_head n attributes slash st)
  start_in_head_open st h = by (is_in_noscript in_head st.path) (stands_on n st.path)
    where
      by : (a b : Bool) → StaysOpen (cond a (start_in_noscript n attributes st) (cond b (opened n attributes st) (close_head (start_after_head n attributes slash) st)))
      by true b = in_noscript_open st h
      by false true = entered_open attributes false st (html_element n ∷ st.path) h
      by false false = later_open (end head false ∷ []) (start_after_head n attributes slash (moved st after_head under_html)) (after_head_open (moved st after_head under_html))

  from_before_head : (st : Construction) → StaysOpen (make_head (start_in_head n attributes slash) st)
  from_before_head st = later_open (start head false [] ∷ []) (start_in_head n attributes slash (moved st in_head under_head)) (start_in_head_open (moved st in_head under_head) refl)

  inside_open : (mode : InsertionMode) (st : Construction) → is_after_body st.insertion_mode ≡ false → StaysOpen (start_inside mode n attributes slash st)
  inside_open initial st h = start_in_body_open n attributes slash st h
  inside_open before_html st h = later_open (start html false [] ∷ []) (make_head (start_in_head n attributes slash) (moved st before_head under_html)) (from_before_head (moved st before_head under_html))
  inside_open before_head st h = from_before_head st
  inside_open in_head st h = start_in_head_open st h
  inside_open after_head st h = after_head_open st
  inside_open in_body st h = start_in_body_open n attributes slash st h
  inside_open after_body st h = start_in_body_open n attributes slash st h
  inside_open after_html st h = start_in_body_open n attributes slash st h

  start_open : (st : Construction) → is_after_body st.insertion_mode ≡ false → StaysOpen (step_start n attributes slash st)
  unfolding step_start
  start_open st h = by (is_outside st.insertion_mode) (is_in_svg st.path) (is_refused n) (bytes_eq n html) (bytes_eq n head) (bytes_eq n body)
    where
      by : (a b c d e f : Bool)
          → StaysOpen (cond a (stops (outside_rule st.insertion_mode) 0) (cond b (start_in_body n attributes slash st)
          (cond c (stops RefusedName 0) (cond d (open_html st.insertion_mode attributes st) (cond e (open_head st.insertion_mode attributes st) (cond f (open_body st.insertion_mode attributes st) (start_inside st.insertion_mode n attributes slash st)))))))
      by true b c d e f = tt
      by false true c d e f = start_in_body_open n attributes slash st h
      by false false true d e f = tt
      by false false false true e f = html_open st.insertion_mode attributes st
      by false false false false true f = head_open st.insertion_mode attributes st
      by false false false false false true = body_tag_open st.insertion_mode attributes st
      by false false false false false false = inside_open st.insertion_mode st h

-- ---- Any token

comment_open : (mode : InsertionMode) (s : List ℕ) (st : Construction) → is_after_body st.insertion_mode ≡ false → StaysOpen (step_comment mode s st)
comment_open initial s st h = h
comment_open before_html s st h = h
comment_open before_head s st h = h
comment_open in_head s st h = h
comment_open after_head s st h = h
comment_open in_body s st h = h
comment_open after_body s st h = h
comment_open after_html s st h = h

doctype_open : (mode : InsertionMode) (legacy : Bool) (st : Construction) → StaysOpen (step_doctype mode legacy st)
doctype_open initial legacy st = refl
doctype_open before_html legacy st = tt
doctype_open before_head legacy st = tt
doctype_open in_head legacy st = tt
doctype_open after_head legacy st = tt
doctype_open in_body legacy st = tt
doctype_open after_body legacy st = tt
doctype_open after_html legacy st = tt

abbrev pub is_end_tag : Seen → Bool
is_end_tag (tokens.end_tag n) = true
is_end_tag token = false

pub only_end_tags_close : (st : Construction) (token : Seen) → is_after_body st.insertion_mode ≡ false → is_end_tag token ≡ false → StaysOpen (step st token)
unfolding step
only_end_tags_close st (tokens.doctype legacy) h e = doctype_open st.insertion_mode legacy (no_drop st)
only_end_tags_close st (tokens.start_tag n attributes slash) h e = start_open n attributes slash (no_drop st) h
only_end_tags_close st (tokens.end_tag n) h e = cc
only_end_tags_close st (tokens.slice s) h e = bytes_open s st h
only_end_tags_close st (tokens.points ps) h e = by (step_bytes (encode_utf8_all ps) st) (bytes_open (encode_utf8_all ps) st h)
  where
    by : (o : Stepped) → StaysOpen o → StaysOpen (at_front o)
    by (went es next) k = k
    by (stops rule n) k = tt
only_end_tags_close st (tokens.comment s) h e = comment_open st.insertion_mode s (no_drop st) h
