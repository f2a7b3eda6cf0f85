-- Settled walks part by part, the last part first, as laws about spellings and pages take them apart.
use Rattle.std.specs.Prelude.{◌≡◌, ℕ, Bool, true, false, ◌⊎◌, nat_le, List, [], ◌∷◌, ◌++◌, length, Some, bytes_eq}
use Rattle.std.specs.Str.{is_utf8}
use Rattle.hm_base.specs.Bytes.{is_null}
use Rattle.hm_base.specs.Forms.{has_byte, is_blank, is_tag_name, is_comment_text}
use Rattle.hm_base.specs.Walks.{Attribute, Event, doctype, start, text, comment, end, Element, has_distinct_names, begins_end, begins_text}
use Rattle.hm_base.specs.declared.limits.TheConstants.{ATTRIBUTE_LIMIT}
use Rattle.hm_elements.specs.Names.{html, head, body, svg}
use Rattle.hm_elements.specs.Tables.{is_void, is_refused, is_svg_name, holds_svg_text}
use Rattle.hm_elements.specs.Paths.{html_element, current, is_in_svg, stands_on, head_yields, is_block_in_p, is_nested, is_deep, is_in_raw, is_in_text, is_in_blank}
use Rattle.hm_elements.specs.Settled.{is_html, no_zero_in_values, raw_text_end, end_tag, all_names_in_form, all_utf8}

-- the attributes of an element
pub record AttributesAllowed (attributes : List Attribute) : Type 0 where
  pub few : nat_le (length attributes) ATTRIBUTE_LIMIT ≡ true
  pub distinct : has_distinct_names attributes ≡ true
  pub names : all_names_in_form attributes ≡ true
  pub no_zero : no_zero_in_values attributes ≡ true
  pub utf8 : all_utf8 attributes ≡ true

-- an element in an HTML element: one of HTML, or svg
pub record HtmlAllowed (n : List ℕ) (foreign : Bool) (path : List Element) (w : List Event) : Type 0 where
  pub kind : foreign ≡ bytes_eq n svg
  pub name : is_tag_name n ≡ true
  pub known : is_refused n ≡ false
  pub stands : stands_on n path ≡ true
  pub kept : head_yields path n ≡ false
  pub no_block_in_p : is_block_in_p n path ≡ false
  pub not_nested : is_nested n path ≡ false
  pub void_is_closed : is_void n ≡ true → begins_end w ≡ true

-- an element in an element of SVG
pub record SvgAllowed (n : List ℕ) (foreign : Bool) (path : List Element) : Type 0 where
  pub kind : foreign ≡ true
  pub name : is_svg_name n ≡ true
  pub parent : holds_svg_text (current path) ≡ false

abbrev pub ElementAllowed : List ℕ → Bool → List Element → List Event → Type 0
ElementAllowed n foreign path w = (is_in_svg path ≡ true) × SvgAllowed n foreign path ⊎ (is_in_svg path ≡ false) × HtmlAllowed n foreign path w

-- an element in head or body
pub record StartAllowed (n : List ℕ) (foreign : Bool) (attributes : List Attribute) (path : List Element) (w : List Event) : Type 0 where
  pub element : ElementAllowed n foreign path w
  pub attributes_allowed : AttributesAllowed attributes
  pub not_deep : is_deep (record { name = n; foreign = foreign } ∷ path) ≡ false

-- html, head or body
pub record RootAllowed (wanted n : List ℕ) (foreign : Bool) (attributes : List Attribute) : Type 0 where
  pub name : n ≡ wanted
  pub kind : foreign ≡ false
  pub attributes_allowed : AttributesAllowed attributes

pub record TextAllowed (path : List Element) (s : List ℕ) (raw : Bool) (w : List Event) : Type 0 where
  pub not_empty : is_null s ≡ false
  pub alone : begins_text w ≡ false
  pub no_zero : has_byte 0 s ≡ false
  pub kind : raw ≡ is_in_raw path
  pub blank : is_in_blank path ≡ true → is_blank s ≡ true
  pub no_return : raw ≡ true → has_byte 13 s ≡ false
  pub ends : raw ≡ true → raw_text_end (current path) (s ++ end_tag (current path)) ≡ Some (length s)
  pub utf8 : is_utf8 s ≡ true

pub record CommentAllowed (path : List Element) (s : List ℕ) : Type 0 where
  pub form : is_comment_text s ≡ true
  pub no_zero : has_byte 0 s ≡ false
  pub outside : is_in_text path ≡ false
  pub utf8 : is_utf8 s ≡ true

abbrev pub one_of_two : Bool → Type 0 → Type 0 → Type 0
one_of_two true A B = A
one_of_two false A B = B

-- the path of html
abbrev pub html_path : List Element
html_path = html_element html ∷ []

-- after the end of html
abbrev pub SettledLast : List Event → Type 0
SettledLast [] = Unit {0}
SettledLast (comment s ∷ w) = CommentAllowed [] s × SettledLast w
SettledLast (e ∷ w) = ⊥

-- after the end of body
abbrev pub SettledAfterBody : List Event → Type 0
SettledAfterBody (comment s ∷ w) = CommentAllowed html_path s × SettledAfterBody w
SettledAfterBody (end n foreign ∷ w) = (n ≡ html) × (foreign ≡ false) × SettledLast w
SettledAfterBody w = ⊥

-- inside head or body, the root here, up to its end
abbrev pub SettledInside : List ℕ → (List Event → Type 0) → List Element → List Event → Type 0
SettledInside root after path [] = ⊥
SettledInside root after path (doctype legacy ∷ w) = ⊥
SettledInside root after path (start n foreign attributes ∷ w) = StartAllowed n foreign attributes path w × SettledInside root after (record { name = n; foreign = foreign } ∷ path) w
SettledInside root after path (text s raw ∷ w) = TextAllowed path s raw w × SettledInside root after path w
SettledInside root after path (comment s ∷ w) = CommentAllowed path s × SettledInside root after path w
SettledInside root after [] (end n foreign ∷ w) = ⊥
SettledInside root after (e ∷ path) (end n foreign ∷ w) = (e ≡ record { name = n; foreign = foreign }) × one_of_two (is_html root n foreign) (after w) (SettledInside root after path w)

abbrev pub SettledBody : List Element → List Event → Type 0
SettledBody path w = SettledInside body SettledAfterBody path w

-- after the end of head
abbrev pub SettledBeforeBody : List Event → Type 0
SettledBeforeBody (text s raw ∷ w) = TextAllowed html_path s raw w × (is_blank s ≡ true) × SettledBeforeBody w
SettledBeforeBody (comment s ∷ w) = CommentAllowed html_path s × SettledBeforeBody w
SettledBeforeBody (start n foreign attributes ∷ w) = RootAllowed body n foreign attributes × SettledBody (html_element body ∷ html_path) w
SettledBeforeBody w = ⊥

abbrev pub SettledHead : List Element → List Event → Type 0
SettledHead path w = SettledInside head SettledBeforeBody path w

-- after the start of html
abbrev pub SettledBeforeHead : List Event → Type 0
SettledBeforeHead (comment s ∷ w) = CommentAllowed html_path s × SettledBeforeHead w
SettledBeforeHead (start n foreign attributes ∷ w) = RootAllowed head n foreign attributes × SettledHead (html_element head ∷ html_path) w
SettledBeforeHead w = ⊥

-- after the doctype
abbrev pub SettledBeforeHtml : List Event → Type 0
SettledBeforeHtml (comment s ∷ w) = CommentAllowed [] s × SettledBeforeHtml w
SettledBeforeHtml (start n foreign attributes ∷ w) = RootAllowed html n foreign attributes × SettledBeforeHead w
SettledBeforeHtml w = ⊥

-- a whole page
abbrev pub SettledPage : List Event → Type 0
SettledPage (comment s ∷ w) = CommentAllowed [] s × SettledPage w
SettledPage (doctype legacy ∷ w) = SettledBeforeHtml w
SettledPage w = ⊥
