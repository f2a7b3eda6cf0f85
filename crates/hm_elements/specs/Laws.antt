-- What the tables say for every name, and what the laws of this crate state.
use Rattle.std.specs.Prelude.{◌≡◌, ℕ, true, false, ◌⊎◌, List, [], ◌∷◌, ◌++◌, length, Option, Some, bytes_eq}
use Rattle.std.specs.Str.{IsUtf8}
use Rattle.hm_base.specs.Forms.{has_byte, is_tag_name}
use Rattle.hm_base.specs.RawText.{begins_end_tag}
use Rattle.hm_base.specs.Walks.{Event, Element}
use Rattle.hm_elements.specs.Names.{words, is_among, head, body, p, table, tr, col, colgroup, svg}
use Rattle.hm_elements.specs.Tables.{is_root, is_void, is_refused, is_section, holds_text, is_raw, is_svg_name}
use Rattle.hm_elements.specs.Nesting.{may_stand, is_closed_by_start, is_ended_by, made_under}
use Rattle.hm_elements.specs.Omission.{end_tag_optional_before, end_tag_optional_in, start_tag_optional_before, start_tag_required_after}
use Rattle.hm_elements.specs.Paths.{is_block_in_p, is_nested, is_deep}
use Rattle.hm_elements.specs.Sample.{sample}
use Rattle.hm_elements.specs.Settled.{Settled, raw_text_end, end_tag}
use Rattle.hm_elements.specs.Places.{SettledPage}

-- The parents of what stands in tables, in html and in head.
pub record ParentIs (n t : List ℕ) : Type 0 where
  pub in_table : is_among n (words "caption colgroup thead tbody tfoot") ≡ true → t ≡ table
  pub in_section : n ≡ tr → is_section t ≡ true
  pub in_row : is_among n (words "td th") ≡ true → t ≡ tr
  pub in_colgroup : n ≡ col → t ≡ colgroup
  pub is_no_root : is_root n ≡ false
  pub in_head : is_among n (words "base title") ≡ true → t ≡ head

-- An element that holds more than one text, and isn't void.
pub record HoldsMore (t : List ℕ) : Type 0 where
  pub no_text : holds_text t ≡ false
  pub not_void : is_void t ≡ false

-- What closes or ends the element t closes or ends a child c that was left open in it.
pub record Follows (c t : List ℕ) : Type 0 where
  pub not_in_p : bytes_eq t p ≡ false
  pub ends_there : is_ended_by c t ≡ true
  pub yields_on : (k : List ℕ) → is_closed_by_start t k ≡ true → is_closed_by_start c k ≡ true
  pub ends_on : (k : List ℕ) → is_ended_by t k ≡ true → is_ended_by c k ≡ true

-- An element n whose start tag is left out before that of its child k stands in a table, and the child's start tag makes it.
pub record StartIsMade (n k t : List ℕ) : Type 0 where
  pub in_table : t ≡ table
  pub makes : made_under t k ≡ n ∷ []
  pub kept : is_closed_by_start t k ≡ false
  pub kept_inside : is_closed_by_start n k ≡ false
  pub last : (l : List ℕ) → start_tag_optional_before k l ≡ false
  pub no_block_in_p : (path : List Element) → is_block_in_p k path ≡ false
  pub not_nested : (path : List Element) → is_nested k path ≡ false

-- svg has a name that is read, closes no paragraph, may stand in itself, isn't void and isn't a root.
pub record SvgIsPlain : Type 0 where
  pub name : is_tag_name svg ≡ true
  pub known : is_refused svg ≡ false
  pub no_block_in_p : (path : List Element) → is_block_in_p svg path ≡ false
  pub not_nested : (path : List Element) → is_nested svg path ≡ false
  pub not_void : is_void svg ≡ false
  pub not_root : is_root svg ≡ false

-- Where an element may stand:
-- its parent holds more than one text, and is the one that its name asks for
abbrev pub ParentsHold : Type 0
ParentsHold = (n t : List ℕ) (g : Option (List ℕ)) → may_stand n t g ≡ true → HoldsMore t × ParentIs n t

-- nothing is made before it
abbrev pub NothingIsMade : Type 0
NothingIsMade = (n t : List ℕ) (g : Option (List ℕ)) → may_stand n t g ≡ true → made_under t n ≡ []

-- a parent that holds svg keeps it
abbrev pub SvgIsKept : Type 0
SvgIsKept = (t : List ℕ) (g : Option (List ℕ)) → may_stand svg t g ≡ true → is_closed_by_start t svg ≡ false

-- no element ends with the end tag of its own name by the table of end tags
abbrev pub EndsAreOthers : Type 0
EndsAreOthers = (c n : List ℕ) → is_ended_by c n ≡ true → bytes_eq c n ≡ false

-- Where an end tag may be left out:
-- before a start tag that may stand there too, which then closes the element
abbrev pub LeftOpenYields : Type 0
LeftOpenYields = (c k t : List ℕ) (g : Option (List ℕ)) → may_stand c t g ≡ true → may_stand k t g ≡ true → end_tag_optional_before c k ≡ true → is_closed_by_start c k ≡ true

-- before a start tag that is left out too, the tag that is written closes the element
abbrev pub LeftOpenYieldsInside : Type 0
LeftOpenYieldsInside = (c n k : List ℕ) → end_tag_optional_before c n ≡ true → start_tag_required_after c n ≡ false → start_tag_optional_before n k ≡ true → is_closed_by_start c k ≡ true

-- at the end of its parent, what closes or ends the parent closes or ends the element
abbrev pub LeftOpenFollows : Type 0
LeftOpenFollows = (c t : List ℕ) (g : Option (List ℕ)) → may_stand c t g ≡ true → end_tag_optional_in c t ≡ true → bytes_eq t body ≡ false → Follows c t

-- at the end of body, the element is p
abbrev pub LeftOpenInBody : Type 0
LeftOpenInBody = (c : List ℕ) (g : Option (List ℕ)) → may_stand c body g ≡ true → end_tag_optional_in c body ≡ true → c ≡ p

-- the element holds more than one text
abbrev pub LeftOpenHolds : Type 0
LeftOpenHolds = (c k : List ℕ) → (end_tag_optional_before c k ≡ true) ⊎ (end_tag_optional_in c k ≡ true) → HoldsMore c

-- Where a start tag may be left out, the start tag that follows it makes the element.
abbrev pub LeftOutIsMade : Type 0
LeftOutIsMade = (n k t : List ℕ) (g : Option (List ℕ)) → may_stand n t g ≡ true → start_tag_optional_before n k ≡ true → StartIsMade n k t

-- A path that isn't too deep with one more element isn't too deep without it.
abbrev pub OuterIsNotDeep : Type 0
OuterIsNotDeep = (e : Element) (path : List Element) → is_deep (e ∷ path) ≡ false → is_deep path ≡ false

-- A name of an element is UTF-8 without a zero byte.
abbrev pub NamesAreUtf8 : Type 0
NamesAreUtf8 = (n : List ℕ) → is_tag_name n ≡ true → IsUtf8 n × (has_byte 0 n ≡ false)

abbrev pub SvgNamesAreNames : Type 0
SvgNamesAreNames = (n : List ℕ) → is_svg_name n ≡ true → is_tag_name n ≡ true

-- A raw text that ends where the shortest end tag of its element follows ends so before each end tag of it.
abbrev pub RawTextsEnd : Type 0
RawTextsEnd = (n s tail : List ℕ) → is_raw n ≡ true → raw_text_end n (s ++ end_tag n) ≡ Some (length s) → begins_end_tag n tail ≡ true → raw_text_end n (s ++ tail) ≡ Some (length s)

-- A walk is settled exactly where it is settled part by part.
abbrev pub SettledHasParts : Type 0
SettledHasParts = (w : List Event) → Settled w → SettledPage w

abbrev pub PartsAreSettled : Type 0
PartsAreSettled = (w : List Event) → SettledPage w → Settled w

abbrev pub SomeWalkIsSettled : Type 0
SomeWalkIsSettled = Settled sample
