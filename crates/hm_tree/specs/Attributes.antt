-- The texts of attributes.
use Rattle.std.specs.Prelude.{Bool, true, ◌&&◌, List, [], ◌∷◌}
use Rattle.std.specs.Str.{is_utf8}
use Rattle.hm_base.specs.Walks.{Attribute}

-- names and values are UTF-8
abbrev pub are_texts : List Attribute → Bool
are_texts [] = true
are_texts (a ∷ attributes) = is_utf8 a.name && is_utf8 a.value && are_texts attributes
