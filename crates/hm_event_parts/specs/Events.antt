-- The units of one event of a tree.
use Rattle.std.specs.Prelude.{ℕ, zero, suc, List, [], ◌∷◌, ◌++◌, take, drop, None, codes, slice_get}
use Rattle.hm_base.specs.Walks.{Event, Element, doctype, start, text, comment, end, path_after}
use Rattle.hm_base.specs.declared.plain.SpellRules.{SpellRules}
use Rattle.hm_elements.specs.Paths.{outer}
use Rattle.hm_graph_laws.specs.Units.{Unit, Previous, fixed, doctype_bytes, start_units, end_units, text_units, units_from}

-- the event directly before event i
abbrev pub previous_at : List Event → ℕ → Previous
previous_at w zero = None
previous_at w (suc i) = slice_get w i

-- the units of the first of the events that are left, after the previous one and with these elements open
abbrev pub event_units : SpellRules → Previous → List Element → List Event → List Unit
event_units r previous path [] = []
event_units r previous path (doctype legacy ∷ w) = fixed (doctype_bytes legacy) ∷ []
event_units r previous path (comment s ∷ w) = fixed (codes "<!--" ++ (s ++ codes "-->")) ∷ []
event_units r previous path (text s raw ∷ w) = text_units previous path s raw
event_units r previous path (start n foreign attributes ∷ w) = start_units r previous n foreign attributes w
event_units r previous path (end n foreign ∷ w) = end_units r n foreign (outer path) w

-- the units of event i
abbrev pub units_at : SpellRules → List Event → ℕ → List Unit
units_at r w i = event_units r (previous_at w i) (path_after [] (take i w)) (drop i w)

-- the units of event i and of all after it
abbrev pub units_left : SpellRules → List Event → ℕ → List Unit
units_left r w i = units_from r (previous_at w i) (path_after [] (take i w)) (drop i w)
