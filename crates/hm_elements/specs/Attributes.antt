-- Attributes that a page may do without.
use Rattle.std.specs.Prelude.{ℕ, Bool, false, ◌&&◌, ◌||◌, List, [], ◌∷◌, map, codes, bytes_eq}
use Rattle.hm_base.specs.Bytes.{lower}
use Rattle.hm_base.specs.Walks.{Attribute}
use Rattle.hm_elements.specs.Names.{words}

-- attributes that say nothing where their value is only whitespace
abbrev pub nothing_blank : List (List ℕ)
nothing_blank = words "class id style"

-- an attribute of an element, with a value in lowercase letters that says what holds without it
pub record Default : Type 0 where
  pub element : List ℕ
  pub name : List ℕ
  pub value : List ℕ

unfoldable pub defaults : List Default
defaults =
    record { element = codes "form"; name = codes "method"; value = codes "get" }
    ∷ record { element = codes "input"; name = codes "type"; value = codes "text" }
    ∷ record { element = codes "area"; name = codes "shape"; value = codes "rect" }
    ∷ record { element = codes "script"; name = codes "type"; value = codes "text/javascript" }
    ∷ record { element = codes "script"; name = codes "language"; value = codes "javascript" }
    ∷ record { element = codes "style"; name = codes "type"; value = codes "text/css" }
    ∷ []

-- this element has this attribute with this value, in any ASCII case
unfoldable pub is_default : List ℕ → Attribute → Default → Bool
is_default n a d = bytes_eq n d.element && bytes_eq a.name d.name && bytes_eq (map lower a.value) d.value

abbrev pub is_one_of : List ℕ → Attribute → List Default → Bool
is_one_of n a [] = false
is_one_of n a (d ∷ ds) = is_default n a d || is_one_of n a ds

-- the attribute says what holds without it
unfoldable pub is_redundant : List ℕ → Attribute → Bool
is_redundant n a = is_one_of n a defaults
