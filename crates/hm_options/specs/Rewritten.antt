-- A walk rewritten event by event.
use Rattle.std.specs.Prelude.{List, [], ◌∷◌, ◌++◌, Option, Some, None}
use Rattle.hm_base.specs.Walks.{Event, Element, path_after_event}

abbrev pub first_event : List Event → Option Event
first_event [] = None
first_event (e ∷ w) = Some e

-- Each event becomes what the rewrite gives for it, from the open elements, the event before it, itself and the event
-- after it. All of these are those of the walk before the rewrite.
abbrev pub rewritten : (List Element → Option Event → Event → Option Event → List Event) → List Element → Option Event → List Event → List Event
rewritten f path before [] = []
rewritten f path before (e ∷ w) = f path before e (first_event w) ++ rewritten f (path_after_event path e) (Some e) w
