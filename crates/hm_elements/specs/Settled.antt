-- Settled walks: trees of pages that are read without any repair. Each rule is a test of an event, with the open
-- elements and the events after it, or a recursion over the events.
use Rattle.std.specs.Prelude.{◌≡◌, ℕ, Bool, true, false, not, ◌&&◌, ◌||◌, ◌==◌, nat_le, List, [], ◌∷◌, ◌++◌, length, Option, Some, None, if◌then◌else◌, codes, bytes_eq}
use Rattle.std.specs.Str.{is_utf8}
use Rattle.hm_base.specs.Bytes.{is_null}
use Rattle.hm_base.specs.Forms.{has_byte, is_blank, is_tag_name, is_attribute_name, is_comment_text}
use Rattle.hm_base.specs.RawText.{raw_end, script_end}
use Rattle.hm_base.specs.Walks.{Attribute, Event, doctype, start, text, comment, end, Element, same_flag, path_after_event, path_after, ends_match, has_distinct_names, begins_text, begins_end}
use Rattle.hm_base.specs.declared.limits.TheConstants.{ATTRIBUTE_LIMIT}
use Rattle.hm_elements.specs.Names.{html, head, body, script, svg}
use Rattle.hm_elements.specs.Tables.{is_root, is_void, is_refused, is_svg_name, holds_svg_text}
use Rattle.hm_elements.specs.Paths.{current, is_in_svg, stands_on, head_yields, is_block_in_p, is_nested, is_deep, is_in_raw, is_in_text, is_in_blank}

-- the HTML element of that name
abbrev pub is_html : List ℕ → List ℕ → Bool → Bool
is_html wanted n foreign = not foreign && bytes_eq n wanted

abbrev pub go_on : {A : Type 0} → Option A → (A → Bool) → Bool
go_on None more = false
go_on (Some a) more = more a

-- what has stood at the top
pub data Top : Type 0 where
  no_doctype : Top
  no_html : Top
  all_there : Top

-- an event at the top, where it may stand
abbrev pub next_top : Top → Event → Option Top
next_top top (comment s) = Some top
next_top no_doctype (doctype legacy) = Some no_html
next_top no_html (start n foreign attributes) = if is_html html n foreign then Some all_there else None
next_top top e = None

abbrev pub is_doctype : Event → Bool
is_doctype (doctype legacy) = true
is_doctype e = false

abbrev pub is_all_there : Top → Bool
is_all_there all_there = true
is_all_there top = false

-- 1. At the top stand comments, one doctype, comments, the element html and comments. No doctype stands deeper.
abbrev pub has_top : Top → List Element → List Event → Bool
has_top top path [] = is_all_there top
has_top top [] (e ∷ w) = go_on (next_top top e) (λ next. has_top next (path_after_event [] e) w)
has_top top (m ∷ path) (e ∷ w) = not (is_doctype e) && has_top top (path_after_event (m ∷ path) e) w

-- what has stood under html
pub data Frame : Type 0 where
  no_head : Frame
  no_body : Frame
  has_body : Frame

-- an event under html, where it may stand
abbrev pub next_frame : Frame → Event → Option Frame
next_frame frame (comment s) = Some frame
next_frame no_head (start n foreign attributes) = if is_html head n foreign then Some no_body else None
next_frame no_body (start n foreign attributes) = if is_html body n foreign then Some has_body else None
next_frame no_body (text s raw) = if is_blank s then Some no_body else None
next_frame has_body (end n foreign) = Some has_body
next_frame frame e = None

abbrev pub starts_root : Event → Bool
starts_root (start n foreign attributes) = not foreign && is_root n
starts_root e = false

abbrev pub starts_inner_root : Event → Bool
starts_inner_root (start n foreign attributes) = is_html head n foreign || is_html body n foreign
starts_inner_root e = false

-- 2. Under html stand comments, head, texts of whitespace and comments, body and comments. These three stand nowhere else.
abbrev pub has_frame : Frame → List Element → List Event → Bool
has_frame frame path [] = true
has_frame frame [] (e ∷ w) = not (starts_inner_root e) && has_frame no_head (path_after_event [] e) w
has_frame frame (m ∷ []) (e ∷ w) = go_on (next_frame frame e) (λ next. has_frame next (path_after_event (m ∷ []) e) w)
has_frame frame (m ∷ k ∷ path) (e ∷ w) = not (starts_root e) && has_frame frame (path_after_event (m ∷ k ∷ path) e) w

-- each event passes, with the open elements before it and the events after it
abbrev pub all_events : (List Element → Event → List Event → Bool) → List Element → List Event → Bool
all_events test path [] = true
all_events test path (e ∷ w) = test path e w && all_events test (path_after_event path e) w

-- 3. Every other HTML element stands in an HTML element that may hold it and that its start tag doesn't close. It has a
-- name that is read. It stands neither in a paragraph that it would close nor in an element of its own kind.
unfoldable pub nests : List Element → Event → List Event → Bool
nests path (start n foreign attributes) w =
    if foreign || is_root n then true
    else not (is_in_svg path) && is_tag_name n && not (is_refused n) && stands_on n path && not (head_yields path n) && not (is_block_in_p n path) && not (is_nested n path)
nests path e w = true

-- 4. An element is one of SVG exactly where it is svg or stands in one. A top svg stands where a child of that name may.
-- A child of an SVG element has a name that is read, and stands in neither title nor desc.
unfoldable pub is_svg_in_place : List Element → Event → List Event → Bool
is_svg_in_place path (start n foreign attributes) w =
    same_flag foreign (bytes_eq n svg || is_in_svg path)
    && (if is_in_svg path then is_svg_name n && not (holds_svg_text (current path)) else not foreign || stands_on svg path)
is_svg_in_place path e w = true

-- 5. A void element ends at once.
unfoldable pub closes_void : List Element → Event → List Event → Bool
closes_void path (start n foreign attributes) w = foreign || not (is_void n) || begins_end w
closes_void path e w = true

abbrev pub no_zero_in_values : List Attribute → Bool
no_zero_in_values [] = true
no_zero_in_values (a ∷ attributes) = not (has_byte 0 a.value) && no_zero_in_values attributes

-- 6. No text is empty, no two texts touch, and no text, comment or value holds a zero byte. A text is raw exactly in
-- the HTML elements style, iframe and script. These three and the HTML elements title and textarea hold at most one
-- text and nothing else. In some elements a text is only whitespace.
unfoldable pub is_text_in_place : List Element → Event → List Event → Bool
is_text_in_place path (text s raw) w = not (is_null s) && not (begins_text w) && not (has_byte 0 s) && same_flag raw (is_in_raw path) && (not (is_in_blank path) || is_blank s)
is_text_in_place path (comment s) w = not (has_byte 0 s) && not (is_in_text path)
is_text_in_place path (start n foreign attributes) w = no_zero_in_values attributes && not (is_in_text path)
is_text_in_place path (doctype legacy) w = not (is_in_text path)
is_text_in_place path (end n foreign) w = true

-- where the text of a raw element of that name ends
abbrev pub raw_text_end : List ℕ → List ℕ → Option ℕ
raw_text_end n s = if bytes_eq n script then script_end s else raw_end n s

abbrev pub is_place : ℕ → Option ℕ → Bool
is_place i None = false
is_place i (Some k) = k == i

abbrev pub end_tag : List ℕ → List ℕ
end_tag n = codes "</" ++ n ++ codes ">"

-- 7. A raw text has no CR, and it ends where the end tag of its element follows.
unfoldable pub is_raw_text : List Element → Event → List Event → Bool
is_raw_text path (text s raw) w = not raw || (not (has_byte 13 s) && is_place (length s) (raw_text_end (current path) (s ++ end_tag (current path))))
is_raw_text path e w = true

-- 8. A comment is one that can be written.
unfoldable pub is_comment_in_form : List Element → Event → List Event → Bool
is_comment_in_form path (comment s) w = is_comment_text s
is_comment_in_form path e w = true

abbrev pub all_names_in_form : List Attribute → Bool
all_names_in_form [] = true
all_names_in_form (a ∷ attributes) = is_attribute_name a.name && all_names_in_form attributes

-- 9. An element has no more attributes than may be written in a tag, with names that are distinct and can be written.
unfoldable pub has_attributes_in_form : List Element → Event → List Event → Bool
has_attributes_in_form path (start n foreign attributes) w = nat_le (length attributes) ATTRIBUTE_LIMIT && has_distinct_names attributes && all_names_in_form attributes
has_attributes_in_form path e w = true

-- 10. No more elements are open than may be.
unfoldable pub is_not_deep : List Element → Event → List Event → Bool
is_not_deep path (start n foreign attributes) w = not (is_deep (record { name = n; foreign = foreign } ∷ path))
is_not_deep path e w = true

abbrev pub all_utf8 : List Attribute → Bool
all_utf8 [] = true
all_utf8 (a ∷ attributes) = is_utf8 a.name && is_utf8 a.value && all_utf8 attributes

-- 11. Texts, comments, and names and values of attributes are UTF-8.
unfoldable pub is_event_utf8 : List Element → Event → List Event → Bool
is_event_utf8 path (start n foreign attributes) w = all_utf8 attributes
is_event_utf8 path (text s raw) w = is_utf8 s
is_event_utf8 path (comment s) w = is_utf8 s
is_event_utf8 path e w = true

-- The rules from a place in a walk on: what has stood at the top and under html, the open elements, and the events that
-- follow.
pub record SettledFrom (t : Top) (f : Frame) (path : List Element) (w : List Event) : Type 0 where
  pub ends : ends_match path w ≡ true
  pub closed : path_after path w ≡ []
  pub top : has_top t path w ≡ true
  pub frame : has_frame f path w ≡ true
  pub nesting : all_events nests path w ≡ true
  pub svg : all_events is_svg_in_place path w ≡ true
  pub voids : all_events closes_void path w ≡ true
  pub texts : all_events is_text_in_place path w ≡ true
  pub raw_texts : all_events is_raw_text path w ≡ true
  pub comments : all_events is_comment_in_form path w ≡ true
  pub attributes : all_events has_attributes_in_form path w ≡ true
  pub depth : all_events is_not_deep path w ≡ true
  pub utf8 : all_events is_event_utf8 path w ≡ true

-- A settled walk.
abbrev pub Settled : List Event → Type 0
Settled w = SettledFrom no_doctype no_head [] w
