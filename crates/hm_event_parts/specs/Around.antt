-- What is shown of the events and elements around an event.
use Rattle.std.specs.Prelude.{◌≡◌, List, [], ◌∷◌, Option, Some, None}
use Rattle.hm_base.specs.Walks.{Event, Element}
use Rattle.hm_elements.specs.Paths.{current, is_in_svg}
use Rattle.hm_tree.specs.Views.{event_of}
use Rattle.hm_tree.specs.declared.events.EventView.{EventView}
use Rattle.hm_graph_laws.specs.Units.{Previous}
use Rattle.hm_event_parts.specs.declared.neighbours.Around.{Around}

-- a walk of the event that is shown, or of none
abbrev pub shown : Option EventView → List Event
shown None = []
shown (Some view) = event_of view ∷ []

-- the event before another one, as it is shown
abbrev pub previous_shown : Option EventView → Previous
previous_shown None = None
previous_shown (Some view) = Some (event_of view)

-- name and kind are those of the innermost of these open elements
pub record IsAround (around : Around) (path : List Element) : Type 0 where
  pub name : around.name.now ≡ current path
  pub foreign : around.foreign ≡ is_in_svg path
