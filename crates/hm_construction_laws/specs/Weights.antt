-- How large a tree is while it is built, with what is still to come.
use Rattle.std.specs.Prelude.{◌≡◌, ℕ, ◌+◌, ◌≤◌, List, [], ◌∷◌, length, encode_utf8_all}
use Rattle.hm_base.specs.Walks.{Event, doctype, start, text, comment, end, attributes_size, walk_size}
use Rattle.hm_tree.specs.Tokens.{Seen}
use Rattle.hm_tree.specs.Tokens as tokens
use Rattle.hm_construction_laws.specs.Steps.{InsertionMode, initial, before_html, before_head, in_head, after_head, in_body, after_body, after_html, Construction, Stepped, went, stops}

-- one for an event, and one more where it opens an element
abbrev pub event_weight : Event → ℕ
event_weight (start n foreign attributes) = 2
event_weight (doctype legacy) = 1
event_weight (text s raw) = 1
event_weight (comment s) = 1
event_weight (end n foreign) = 1

abbrev pub weight : List Event → ℕ
weight [] = 0
weight (e ∷ es) = event_weight e + weight es

-- what may still be made before the body, and what is open or kept for later
abbrev pub left : InsertionMode → ℕ
left initial = 13
left before_html = 13
left before_head = 10
left in_head = 6
left after_head = 4
left in_body = 0
left after_body = 0
left after_html = 0

abbrev pub left_size : InsertionMode → ℕ
left_size initial = 12
left_size before_html = 12
left_size before_head = 8
left_size in_head = 4
left_size after_head = 4
left_size in_body = 0
left_size after_body = 0
left_size after_html = 0

abbrev pub texts_size : List (List ℕ) → ℕ
texts_size [] = 0
texts_size (s ∷ ss) = length s + texts_size ss

abbrev pub load : Construction → ℕ
load st = length st.path + (length st.comments_after_body + length st.comments_after_html) + left st.insertion_mode

abbrev pub load_size : Construction → ℕ
load_size st = texts_size st.comments_after_body + texts_size st.comments_after_html + left_size st.insertion_mode

-- how much weight a token may add
abbrev pub cost : Seen → ℕ
cost (tokens.doctype legacy) = 1
cost (tokens.start_tag n attributes slash) = 9
cost (tokens.end_tag n) = 0
cost (tokens.slice s) = length s
cost (tokens.points ps) = length (encode_utf8_all ps)
cost (tokens.comment s) = 1

-- how many bytes of names, values, texts and comments it may add
abbrev pub size_cost : Seen → ℕ
size_cost (tokens.doctype legacy) = 0
size_cost (tokens.start_tag n attributes slash) = length n + attributes_size attributes + 8
size_cost (tokens.end_tag n) = 0
size_cost (tokens.slice s) = length s
size_cost (tokens.points ps) = length (encode_utf8_all ps)
size_cost (tokens.comment s) = length s

-- after how many bytes of the token it may be refused
abbrev pub span : Seen → ℕ
span (tokens.doctype legacy) = 0
span (tokens.start_tag n attributes slash) = 0
span (tokens.end_tag n) = 0
span (tokens.slice s) = length s
span (tokens.points ps) = 0
span (tokens.comment s) = 0

-- The events of a step and what is left after it are within `a` and `b`; it is refused within `m` bytes.
abbrev pub Within : ℕ → ℕ → ℕ → Stepped → Type 0
Within a b m (went es st) = (weight es + load st ≤ a) × (walk_size es + load_size st ≤ b)
Within a b m (stops rule n) = n ≤ m

-- The events that end a page are within `a` and `b`; it is refused at its end.
abbrev pub WithinAll : ℕ → ℕ → Stepped → Type 0
WithinAll a b (went es st) = (weight es ≤ a) × (walk_size es ≤ b)
WithinAll a b (stops rule n) = n ≡ 0
