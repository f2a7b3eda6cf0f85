-- The units of an event at its place.
use Rattle.std.proofs.Common.{◌≡◌, ℕ, ◌+◌, List, [], ◌∷◌, take, drop, slice_get, Some, refl}
use Rattle.std.proofs.lemmas.List.{drop_more}
use Rattle.std.proofs.lemmas.Option.{slice_get_within, get_or_from_slice_get}
use Rattle.hm_base.specs.Walks.{Event, path_after}
use Rattle.hm_base.specs.declared.plain.SpellRules.{SpellRules}
use Rattle.hm_event_parts.specs.Events.{previous_at, event_units, units_at}

pub units_here : (r : SpellRules) (w : List Event) (i : ℕ) (e : Event) → slice_get w i ≡ Some e → event_units r (previous_at w i) (path_after [] (take i w)) (e ∷ drop (i + 1) w) ≡ units_at r w i
units_here r w i e at = rw (drop_more w i e (slice_get_within w i e at), get_or_from_slice_get w i e e at) refl
