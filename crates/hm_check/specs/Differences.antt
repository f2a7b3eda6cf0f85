-- Where two trees differ first.
use Rattle.std.specs.Prelude.{ℕ, suc, Bool, true, false, ◌&&◌, List, [], ◌∷◌, Option, Some, None, option_map, if◌then◌else◌, bytes_eq}
use Rattle.hm_base.specs.Walks.{Attribute, Event, doctype, start, text, comment, end, same_flag}

abbrev pub same_attributes : List Attribute → List Attribute → Bool
same_attributes [] [] = true
same_attributes [] (b ∷ others) = false
same_attributes (a ∷ attributes) [] = false
same_attributes (a ∷ attributes) (b ∷ others) = bytes_eq a.name b.name && (bytes_eq a.value b.value && same_attributes attributes others)

abbrev pub same_event : Event → Event → Bool
same_event (doctype a) (doctype b) = same_flag a b
same_event (start n foreign attributes) (start m svg others) = bytes_eq n m && (same_flag foreign svg && same_attributes attributes others)
same_event (text s raw) (text u as_is) = bytes_eq s u && same_flag raw as_is
same_event (comment s) (comment u) = bytes_eq s u
same_event (end n foreign) (end m svg) = bytes_eq n m && same_flag foreign svg
same_event e f = false

-- the index of the first event in which two walks differ, or at which one of them has ended
abbrev pub first_difference : List Event → List Event → Option ℕ
first_difference [] [] = None
first_difference [] (f ∷ v) = Some 0
first_difference (e ∷ w) [] = Some 0
first_difference (e ∷ w) (f ∷ v) = if same_event e f then option_map (λ i. suc i) (first_difference w v) else Some 0
