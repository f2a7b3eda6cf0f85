-- How a tag may be written (HTML Standard, #start-tags to #attributes-2): its name and the names of its attributes in any
-- ASCII case, whitespace of any kind, attributes with and without quotes.
--
-- A relation says how a value is written in a form: what can be read is one, the written rules are another. Each piece is
-- judged together with the bytes that follow it.
use Rattle.std.specs.Prelude.{◌≡◌, ℕ, Bool, true, false, not, ◌&&◌, List, [], ◌∷◌, ◌++◌, map}
use Rattle.hm_base.specs.Bytes.{lower}
use Rattle.hm_base.specs.Forms.{is_blank}
use Rattle.hm_base.specs.Walks.{Attribute}
use Rattle.hm_markup_spec.specs.Gaps.{is_gap}

-- how an attribute is written: its name alone, or with a value without quotes, in double or in single quotes
pub data Quoting : Type 0 where
  bare : Quoting
  unquoted : Quoting
  double : Quoting
  single : Quoting

-- how a value may be written in a form, with its '=', after the attribute's name and before what follows
abbrev pub Writes : Type 1
Writes = Quoting → List ℕ → List ℕ → List ℕ → Type 0

-- v after '=', with whitespace or none before each of them
pub record IsAssigned (v b : List ℕ) : Type 0 where
  pub left : List ℕ
  pub right : List ℕ
  pub is : b ≡ left ++ 61 ∷ (right ++ v)
  pub left_blank : is_blank left ≡ true
  pub right_blank : is_blank right ≡ true

-- Whether whitespace has to stand between an attribute of this form and the next one: after a quote only where attributes
-- may not touch.
abbrev pub parts_attributes : Bool → Quoting → Bool
parts_attributes touching bare = true
parts_attributes touching unquoted = true
parts_attributes touching double = not touching
parts_attributes touching single = not touching

-- whether whitespace has to stand between an attribute of this form and the '/' of the tag
abbrev pub parts_slash : Quoting → Bool
parts_slash bare = false
parts_slash unquoted = true
parts_slash double = false
parts_slash single = false

-- b writes an attribute in this form, after one of the form before or after the tag's name, which counts as bare
pub record WritesAttribute (writes : Writes) (touching : Bool) (before form : Quoting) (a : Attribute) (b after : List ℕ) : Type 0 where
  pub gap : List ℕ
  pub name : List ℕ
  pub value : List ℕ
  pub is : b ≡ gap ++ (name ++ value)
  pub apart : is_gap (parts_attributes touching before) gap ≡ true
  pub lowered : map lower name ≡ a.name
  pub assigned : writes form a.value value after

-- b writes these attributes after one of the form before; the last one, or else what is before, has the form last
abbrev pub WritesAttributes : Writes → Bool → Quoting → Quoting → List Attribute → List ℕ → List ℕ → Type 0
WritesAttributes writes touching before last [] b after = (last ≡ before) × (b ≡ [])
WritesAttributes writes touching before last (a ∷ attributes) b after =
    (form : Quoting) × (piece rest : List ℕ) × (b ≡ piece ++ rest) × WritesAttribute writes touching before form a piece (rest ++ after) × WritesAttributes writes touching form last attributes rest after

abbrev pub tag_end : Bool → List ℕ
tag_end true = 47 ∷ 62 ∷ []
tag_end false = 62 ∷ []

-- b writes a start tag
pub record WritesStart (writes : Writes) (touching : Bool) (name : List ℕ) (attributes : List Attribute) (slash : Bool) (b after : List ℕ) : Type 0 where
  pub written : List ℕ
  pub last : Quoting
  pub middle : List ℕ
  pub gap : List ℕ
  pub is : b ≡ 60 ∷ (written ++ (middle ++ (gap ++ tag_end slash)))
  pub lowered : map lower written ≡ name
  pub attributed : WritesAttributes writes touching bare last attributes middle (gap ++ (tag_end slash ++ after))
  pub apart : is_gap (slash && parts_slash last) gap ≡ true

-- b writes an end tag
pub record WritesEnd (name b : List ℕ) : Type 0 where
  pub written : List ℕ
  pub gap : List ℕ
  pub is : b ≡ 60 ∷ 47 ∷ (written ++ (gap ++ 62 ∷ []))
  pub lowered : map lower written ≡ name
  pub blank : is_blank gap ≡ true
