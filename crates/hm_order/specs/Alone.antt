-- A tag that has one attribute and no others: the cost of the attribute follows from the length of its shortest text.
use Rattle.std.specs.Prelude.{ℕ, Bool, true, false, List, [], ◌∷◌, codes}
use Rattle.hm_base.specs.Walks.{Attribute, Event, start, end}

-- a void element, or one of SVG, which may close itself
abbrev pub element_alone : Bool → List ℕ
element_alone false = codes "br"
element_alone true = codes "g"

abbrev pub walk_alone : Bool → Attribute → List Event
walk_alone closes a = start (element_alone closes) closes (a ∷ []) ∷ end (element_alone closes) closes ∷ []
