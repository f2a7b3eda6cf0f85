-- What of a tag is read back: values as they may be written, and the attributes of a tag in a tree.
use Rattle.std.specs.Prelude.{◌≡◌, ℕ, ◌≤◌, Bool, true, false, not, ◌&&◌, List, [], ◌∷◌, ◌++◌, length}
use Rattle.hm_base.specs.Bytes.{all_pass}
use Rattle.hm_base.specs.Forms.{is_attribute_name}
use Rattle.hm_base.specs.Walks.{Attribute, has_distinct_names}
use Rattle.hm_refs.specs.Names.{Entry}
use Rattle.hm_markup_spec.specs.Tags.{Quoting, bare, unquoted, double, single, IsAssigned}
use Rattle.hm_scan.specs.Values.{read_value}
use Rattle.hm_scan.specs.Tags.{is_inside, is_quote, is_unquoted_byte}
use Rattle.hm_scan.specs.Reading.{attribute_limit}

-- the bytes of a value without quotes: at least one, no quote at the start, neither whitespace nor '>'
unfoldable pub is_unquoted : List ℕ → Bool
is_unquoted [] = false
is_unquoted (c ∷ s) = not (is_quote c) && all_pass is_unquoted_byte (c ∷ s)

-- b writes a value in these quotes
pub record IsQuoted (t : List Entry) (quote : ℕ) (value b : List ℕ) : Type 0 where
  pub written : List ℕ
  pub is : IsAssigned (quote ∷ (written ++ quote ∷ [])) b
  pub inside : all_pass (is_inside quote) written ≡ true
  pub read : read_value t written ≡ value

pub record IsUnquoted (t : List Entry) (value b : List ℕ) : Type 0 where
  pub written : List ℕ
  pub is : IsAssigned written b
  pub good : is_unquoted written ≡ true
  pub read : read_value t written ≡ value

-- b writes a value that is read back in this form, whatever follows
abbrev pub WritesValue : List Entry → Quoting → List ℕ → List ℕ → List ℕ → Type 0
WritesValue t bare value b after = (value ≡ []) × (b ≡ [])
WritesValue t unquoted value b after = IsUnquoted t value b
WritesValue t double value b after = IsQuoted t 34 value b
WritesValue t single value b after = IsQuoted t 39 value b

abbrev pub are_attribute_names : List Attribute → Bool
are_attribute_names [] = true
are_attribute_names (a ∷ attributes) = is_attribute_name a.name && are_attribute_names attributes

-- the attributes of a tag in a tree
pub record IsAttributes (attributes : List Attribute) : Type 0 where
  pub names : are_attribute_names attributes ≡ true
  pub distinct : has_distinct_names attributes ≡ true
  pub few : length attributes ≤ attribute_limit
