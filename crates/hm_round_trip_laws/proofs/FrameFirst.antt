-- What may be first after a tag of html, head or body that was left out, and that it makes the element anyway.
use Rattle.std.proofs.Common.{◌≡◌, ℕ, Bool, true, false, cond, List, [], ◌∷◌, refl}
use Rattle.hm_base.specs.Bytes.{is_space}
use Rattle.hm_base.specs.Walks.{Attribute, Event, start, end}
use Rattle.hm_base.specs.declared.rules.Rule.TheVariants.{RefusedName}
use Rattle.hm_elements.specs.Names.{is_among, html, head, body}
use Rattle.hm_elements.specs.Tables.{is_metadata, is_refused, refused_names, is_raw, raw_names, is_rcdata, rcdata_names, holds_text}
use Rattle.hm_elements.specs.Paths.{is_in_blank, blank_parents, stands_on}
use Rattle.hm_tree.specs.Tokens as tokens
use Rattle.hm_construction_laws.specs.Steps.{before_html, before_head, in_head, after_head, in_body, Stepped, stops, stepped_after_events, under_html, under_head, under_body, is_at_end, step, step_start, step_end, step_byte, step_over}
use Rattle.hm_round_trip_laws.proofs.Ahead.{Ahead, tag, point, Agree}
use Rattle.hm_round_trip_laws.proofs.Frame.{here}
use Rattle.hm_round_trip_laws.proofs.LastEvents.{end_html, ended}
use Rattle.hm_round_trip_laws.proofs.BodySteps.{NoRoot}
use Rattle.hm_round_trip_laws.proofs.Closing.{BodyEndFirst, end_body, after}

-- an element that isn't taken into head, nor refused after it
pub record BodyChild (n : List ℕ) : Type 0 where
  pub root : NoRoot n
  pub no_metadata : is_metadata n ≡ false
  pub not_in_head : stands_on n under_head ≡ false

-- after an omitted `<body>`
pub data BodyFirst : Ahead → Type 0 where
  start_child : (n : List ℕ) (attributes : List Attribute) (slash : Bool) → BodyChild n → BodyFirst (tag (tokens.start_tag n attributes slash))
  visible : (c : ℕ) → is_space c ≡ false → BodyFirst (point c)
  body_ended : {x : Ahead} → BodyEndFirst x → BodyFirst x

-- after an omitted `</head>`
pub data AfterHeadFirst : Ahead → Type 0 where
  start_body : (attributes : List Attribute) (slash : Bool) → AfterHeadFirst (tag (tokens.start_tag body attributes slash))
  body_left_out : {x : Ahead} → BodyFirst x → AfterHeadFirst x

-- after an omitted `<head>`
pub data HeadFirst : Ahead → Type 0 where
  head_child : (n : List ℕ) (attributes : List Attribute) (slash : Bool) → NoRoot n → HeadFirst (tag (tokens.start_tag n attributes slash))
  end_head : HeadFirst (tag (tokens.end_tag head))
  after_omitted_head : {x : Ahead} → AfterHeadFirst x → HeadFirst x

-- after an omitted `<html>`
pub data BeforeHeadFirst : Ahead → Type 0 where
  start_head : (attributes : List Attribute) (slash : Bool) → BeforeHeadFirst (tag (tokens.start_tag head attributes slash))
  head_left_out : {x : Ahead} → HeadFirst x → BeforeHeadFirst x

-- a start tag that is refused by its name, or goes on
unless_refused : (es : List Event) (a : Bool) (x y : Stepped) → x ≡ stepped_after_events es y → cond a (stops RefusedName 0) x ≡ stepped_after_events es (cond a (stops RefusedName 0) y)
unless_refused es true x y h = refl
unless_refused es false x y h = h

body_child : (n : List ℕ) (attributes : List Attribute) (slash : Bool) → BodyChild n → step (here after_head under_html false) (tokens.start_tag n attributes slash) ≡ stepped_after_events (start body false [] ∷ []) (step (here in_body under_body false) (tokens.start_tag n attributes slash))
unfolding step step_start
body_child n attributes slash c = rw (c.root.no_html, c.root.no_head, c.root.no_body, c.no_metadata) (unless_refused (start body false [] ∷ []) (is_refused n) _ _ refl)

pub body_agrees : (x : Ahead) → BodyFirst x → Agree (here after_head under_html false) (start body false [] ∷ []) (here in_body under_body false) x
unfolding step step_start step_end step_byte step_over holds_text is_raw raw_names is_rcdata rcdata_names is_among is_at_end is_in_blank blank_parents
body_agrees x (start_child n attributes slash c) = body_child n attributes slash c
body_agrees x (visible c h) = rw h refl
body_agrees x (body_ended end_body) = refl
body_agrees x (body_ended (after end_html)) = refl
body_agrees x (body_ended (after ended)) = λ place at. refl

closed_child : (n : List ℕ) (attributes : List Attribute) (slash : Bool) → BodyChild n → step (here in_head under_head false) (tokens.start_tag n attributes slash) ≡ stepped_after_events (end head false ∷ []) (step (here after_head under_html false) (tokens.start_tag n attributes slash))
unfolding step step_start
closed_child n attributes slash c = rw (c.root.no_html, c.root.no_head, c.root.no_body, c.no_metadata, c.not_in_head) (unless_refused (end head false ∷ []) (is_refused n) _ _ refl)

pub end_head_agrees : (x : Ahead) → AfterHeadFirst x → Agree (here in_head under_head false) (end head false ∷ []) (here after_head under_html false) x
unfolding step step_start step_end step_byte step_over holds_text is_raw raw_names is_rcdata rcdata_names is_among is_at_end is_in_blank blank_parents is_refused refused_names
end_head_agrees x (start_body attributes slash) = refl
end_head_agrees x (body_left_out (start_child n attributes slash c)) = closed_child n attributes slash c
end_head_agrees x (body_left_out (visible c h)) = rw h refl
end_head_agrees x (body_left_out (body_ended end_body)) = refl
end_head_agrees x (body_left_out (body_ended (after end_html))) = refl
end_head_agrees x (body_left_out (body_ended (after ended))) = λ place at. refl

head_opened : (n : List ℕ) (attributes : List Attribute) (slash : Bool) → NoRoot n → step (here before_head under_html false) (tokens.start_tag n attributes slash) ≡ stepped_after_events (start head false [] ∷ []) (step (here in_head under_head false) (tokens.start_tag n attributes slash))
unfolding step step_start
head_opened n attributes slash root = rw (root.no_html, root.no_head, root.no_body) (unless_refused (start head false [] ∷ []) (is_refused n) _ _ refl)

pub head_agrees : (x : Ahead) → HeadFirst x → Agree (here before_head under_html false) (start head false [] ∷ []) (here in_head under_head false) x
unfolding step step_start step_end step_byte step_over holds_text is_raw raw_names is_rcdata rcdata_names is_among is_at_end is_in_blank blank_parents is_refused refused_names
head_agrees x (head_child n attributes slash root) = head_opened n attributes slash root
head_agrees x end_head = refl
head_agrees x (after_omitted_head (start_body attributes slash)) = refl
head_agrees x (after_omitted_head (body_left_out (start_child n attributes slash c))) = head_opened n attributes slash c.root
head_agrees x (after_omitted_head (body_left_out (visible c h))) = rw h refl
head_agrees x (after_omitted_head (body_left_out (body_ended end_body))) = refl
head_agrees x (after_omitted_head (body_left_out (body_ended (after end_html)))) = refl
head_agrees x (after_omitted_head (body_left_out (body_ended (after ended)))) = λ place at. refl

html_opened : (n : List ℕ) (attributes : List Attribute) (slash : Bool) → NoRoot n → step (here before_html [] false) (tokens.start_tag n attributes slash) ≡ stepped_after_events (start html false [] ∷ []) (step (here before_head under_html false) (tokens.start_tag n attributes slash))
unfolding step step_start
html_opened n attributes slash root = rw (root.no_html, root.no_head, root.no_body) (unless_refused (start html false [] ∷ []) (is_refused n) _ _ refl)

pub html_agrees : (x : Ahead) → BeforeHeadFirst x → Agree (here before_html [] false) (start html false [] ∷ []) (here before_head under_html false) x
unfolding step step_start step_end step_byte step_over holds_text is_raw raw_names is_rcdata rcdata_names is_among is_at_end is_in_blank blank_parents is_refused refused_names
html_agrees x (start_head attributes slash) = refl
html_agrees x (head_left_out (head_child n attributes slash root)) = html_opened n attributes slash root
html_agrees x (head_left_out end_head) = refl
html_agrees x (head_left_out (after_omitted_head (start_body attributes slash))) = refl
html_agrees x (head_left_out (after_omitted_head (body_left_out (start_child n attributes slash c)))) = html_opened n attributes slash c.root
html_agrees x (head_left_out (after_omitted_head (body_left_out (visible c h)))) = rw h refl
html_agrees x (head_left_out (after_omitted_head (body_left_out (body_ended end_body)))) = refl
html_agrees x (head_left_out (after_omitted_head (body_left_out (body_ended (after end_html))))) = refl
html_agrees x (head_left_out (after_omitted_head (body_left_out (body_ended (after ended))))) = λ place at. refl
