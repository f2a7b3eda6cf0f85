-- The parts of a tag as they are written (HTML Standard, #tag-name-state and #before-attribute-name-state to
-- #self-closing-start-tag-state).
use Rattle.std.specs.Prelude.{ℕ, zero, suc, ◌-◌, Bool, false, not, ◌||◌, ◌==◌, List, [], ◌∷◌, length, drop, Option, Some, None, if◌then◌else◌}
use Rattle.hm_base.specs.Bytes.{Cut, front, rest_after, head_is, is_space}
use Rattle.hm_base.specs.RawText.{is_name_end}
use Rattle.hm_base.specs.Walks.{Attribute}

-- a byte of a tag's name: neither whitespace nor '/' nor '>'
unfoldable pub is_name_byte : ℕ → Bool
is_name_byte c = not (is_name_end c)

-- a byte of an attribute's name after its first one: one of a tag's name other than '='
unfoldable pub is_later_byte : ℕ → Bool
is_later_byte c = not (is_name_end c || c == 61)

-- a byte of an unquoted value: neither whitespace nor '>'
unfoldable pub is_unquoted_byte : ℕ → Bool
is_unquoted_byte c = not (is_space c || c == 62)

-- a byte between these quotes
unfoldable pub is_inside : ℕ → ℕ → Bool
is_inside quote c = not (c == quote)

unfoldable pub is_quote : ℕ → Bool
is_quote c = c == 34 || c == 39

-- the longest prefix whose bytes pass, and what follows it
abbrev pub cut_after : (ℕ → Bool) → List ℕ → Cut
cut_after p s = record { before = front p s; after = rest_after p s }

-- after a quote: up to the same quote, which belongs to neither part
abbrev pub cut_quoted : ℕ → List ℕ → Cut
cut_quoted quote s = record { before = front (is_inside quote) s; after = drop 1 (rest_after (is_inside quote) s) }

-- nothing is left
abbrev pub no_more : Cut
no_more = record { before = []; after = [] }

-- After '=' and whitespace: a value in quotes, or one up to whitespace or '>', which is empty where '>' stands there.
abbrev pub cut_value : List ℕ → Cut
cut_value [] = no_more
cut_value (c ∷ s) = if is_quote c then cut_quoted c s else cut_after is_unquoted_byte (c ∷ s)

-- s follows an attribute's name, and r is s without its leading whitespace: a value where r begins with '=', else an
-- empty one.
abbrev pub cut_assigned : List ℕ → List ℕ → Cut
cut_assigned s [] = no_more
cut_assigned s (c ∷ r) = if c == 61 then cut_value (rest_after is_space r) else record { before = []; after = s }

-- an attribute, name and value as they are written, and what follows it
pub record Written : Type 0 where
  pub attribute : Attribute
  pub rest : List ℕ

abbrev pub with_name : List ℕ → Cut → Written
with_name name value = record { attribute = record { name = name; value = value.before }; rest = value.after }

abbrev pub named : List ℕ → List ℕ → Written
named name s = with_name name (cut_assigned s (rest_after is_space s))

-- the attribute whose name begins with c, whatever c is
unfoldable pub attribute_at : ℕ → List ℕ → Written
attribute_at c s = named (c ∷ front is_later_byte s) (rest_after is_later_byte s)

-- the attributes of a tag in order, whether a '/' stands directly before its '>', and what follows it
pub record CutTag : Type 0 where
  pub attributes : List Attribute
  pub slash : Bool
  pub rest : List ℕ

abbrev pub with_attribute : Attribute → Option CutTag → Option CutTag
with_attribute a None = None
with_attribute a (Some g) = Some (record g { attributes = a ∷ g.attributes })

abbrev pub with_slash : Bool → Option CutTag → Option CutTag
with_slash slash None = None
with_slash slash (Some g) = Some (record g { slash = slash || g.slash })

-- an attribute that begins before s, and what `more` reads after it, given how much of s belongs to the attribute
abbrev pub attribute_then : List ℕ → Written → (ℕ → Option CutTag) → Option CutTag
attribute_then s w more = with_attribute w.attribute (more (length s - length w.rest))

unfoldable pub is_tag_end : ℕ → Bool
is_tag_end c = c == 62

-- A tag after its name, where it has an end. The first `skip` bytes are skipped.
abbrev pub tag_from : ℕ → List ℕ → Option CutTag
tag_from skip [] = None
tag_from (suc skip) (c ∷ s) = tag_from skip s
tag_from zero (c ∷ s) =
    if is_tag_end c then Some (record { attributes = []; slash = false; rest = s })
    else if c == 47 then with_slash (head_is is_tag_end s) (tag_from 0 s)
    else if is_space c then tag_from 0 s
    else attribute_then s (attribute_at c s) (λ k. tag_from k s)

abbrev pub cut_tag : List ℕ → Option CutTag
cut_tag s = tag_from 0 s
