-- Walks in which an attribute goes after the others of its tag.
use Rattle.std.specs.Prelude.{ℕ, zero, suc, List, [], ◌∷◌, ◌++◌, take, drop}
use Rattle.hm_base.specs.Walks.{Event, doctype, start, text, comment, end}

-- a list with the element at a place after the others
abbrev pub moved : {A : Type 0} → ℕ → List A → List A
moved i [] = []
moved zero (a ∷ list) = list ++ a ∷ []
moved (suc i) (a ∷ list) = a ∷ moved i list

-- a list with other elements in place of `count` of it
abbrev pub with_part : {A : Type 0} → ℕ → ℕ → List A → List A → List A
with_part from count list part = take from list ++ (part ++ drop count (drop from list))

-- an event with the attribute at a place after the others, where it has one there
abbrev pub with_moved : ℕ → Event → Event
with_moved at (doctype legacy) = doctype legacy
with_moved at (start n foreign attributes) = start n foreign (moved at attributes)
with_moved at (text s raw) = text s raw
with_moved at (comment s) = comment s
with_moved at (end n foreign) = end n foreign

-- a walk with event i so
abbrev pub put_last : List Event → ℕ → ℕ → List Event
put_last [] i at = []
put_last (e ∷ w) zero at = with_moved at e ∷ w
put_last (e ∷ w) (suc i) at = e ∷ put_last w i at
