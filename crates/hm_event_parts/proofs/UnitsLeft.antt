-- The units that are left, event by event.
use Rattle.std.proofs.Common.{◌≡◌, ℕ, suc, ◌+◌, ◌<◌, List, [], ◌∷◌, ◌++◌, length, take, drop, get_or, slice_get, Some, false, ap, refl, arith}
use Rattle.std.proofs.lemmas.List.{drop_more, drop_all}
use Rattle.std.proofs.lemmas.Option.{slice_get-get_or}
use Rattle.hm_base.specs.Walks.{Event, doctype, start, text, comment, end, Element, path_after_event, path_after}
use Rattle.hm_base.specs.declared.plain.SpellRules.{SpellRules}
use Rattle.hm_tree.proofs.WalkLemmas.{path_after-take}
use Rattle.hm_graph_laws.specs.Units.{Previous, units_from}
use Rattle.hm_event_parts.specs.Events.{previous_at, event_units, units_at, units_left}

-- the units of the first event stand first
first_units : (r : SpellRules) (previous : Previous) (path : List Element) (e : Event) (w : List Event)
    → units_from r previous path (e ∷ w) ≡ event_units r previous path (e ∷ w) ++ units_from r (Some e) (path_after_event path e) w
first_units r previous path (doctype legacy) w = refl
first_units r previous path (start n foreign attributes) w = refl
first_units r previous path (text s raw) w = refl
first_units r previous path (comment s) w = refl
first_units r previous [] (end n foreign) w = refl
first_units r previous (p ∷ path) (end n foreign) w = refl

pub previous_at-next : (w : List Event) (i : ℕ) → previous_at w (i + 1) ≡ slice_get w i
previous_at-next w i = ap (previous_at w) (let next : i + 1 ≡ suc i = omega arith in next)

pub units_left-next : (r : SpellRules) (w : List Event) (i : ℕ) → i < length w → units_left r w i ≡ units_at r w i ++ units_left r w (i + 1)
units_left-next r w i within =
    let e : Event = get_or w i (doctype false) in
    let at : slice_get w i ≡ Some e = slice_get-get_or w i (doctype false) within in
    rw (drop_more w i (doctype false) within, path_after-take w i e at, previous_at-next w i, at) (first_units r (previous_at w i) (path_after [] (take i w)) e (drop (i + 1) w))

pub units_left-none : (r : SpellRules) (w : List Event) → units_left r w (length w) ≡ []
units_left-none r w = rw (drop_all (length w) w (omega arith)) refl
