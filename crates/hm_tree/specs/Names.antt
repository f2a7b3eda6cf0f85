-- Tables of the names of attributes.
use Rattle.std.specs.Prelude.{◌≡◌, ℕ, List}
use Rattle.std.specs.HashSet.{HashSet, contains_text}
use Rattle.std.specs.declared.string.String.{String}
use Rattle.std.specs.declared.alloc.Global.{Global}
use Rattle.hm_base.specs.Walks.{Attribute, has_name}

-- The set has the names of these attributes, and no others.
abbrev pub HasNames : {S : Type 0} → HashSet (String Global) S → List Attribute → Type 0
HasNames names attributes = (n : List ℕ) → contains_text names n ≡ has_name n attributes
