-- A tree that is being built, as contracts see it, and what a step does to it.
use Rattle.std.specs.Prelude.{◌≡◌, List, [], ◌++◌, Result, Ok, Err}
use Rattle.hm_base.specs.Walks.{Event, pushes}
use Rattle.hm_tree.specs.Trees.{HasRoom}
use Rattle.hm_construction_laws.specs.Steps.{Construction, Stepped, went, stops, first_state}
use Rattle.hm_open_elements.specs.declared.moves.SettleFault.{SettleFault}
use Rattle.hm_open_elements.specs.declared.moves.SettleFault.TheVariants as settle
use Rattle.hm_insertion.specs.declared.fault.BuildFault.{BuildFault}
use Rattle.hm_insertion.specs.declared.fault.BuildFault.TheVariants as faults

-- the state, and the events so far, texts that touch joined
pub record Building : Type 0 where
  pub state : Construction
  pub walk : List Event

-- before the first token
abbrev pub first_building : Building
first_building = record { state = first_state; walk = [] }

-- events appended to a walk, texts that touch joined
unfoldable pub grown : List Event → List Event → List Event
grown w es = pushes (w ++ es) []

-- There is room for the events of a step after the walk, none of them joined.
abbrev pub Fits : Stepped → List Event → Type 0
Fits (went es st) w = HasRoom (w ++ es)
Fits (stops rule n) w = Unit {0}

-- the step goes, and leads from the one to the other
abbrev pub IsStepped : Stepped → Building → Building → Type 0
IsStepped (went es st) old new = (new.state ≡ st) × (new.walk ≡ grown old.walk es)
IsStepped (stops rule n) old new = ⊥

-- The step is refused by the rule of the fault. Memory may be refused at any time.
abbrev pub IsRefused : Stepped → BuildFault → Type 0
IsRefused step (faults.Rule rule n) = step ≡ stops rule n
IsRefused step faults.OutOfMemory = Unit {0}

-- a fault of the open elements, at the start of a token
abbrev pub of_settle : SettleFault → BuildFault
of_settle (settle.Rule rule) = faults.Rule rule 0
of_settle settle.OutOfMemory = faults.OutOfMemory

-- the tree of the events so far and those of the last step
abbrev pub IsBuilt : Stepped → List Event → List Event → Type 0
IsBuilt (went es st) w tree = tree ≡ grown w es
IsBuilt (stops rule n) w tree = ⊥

-- the fault at the start of its token
abbrev pub front_of : BuildFault → BuildFault
front_of (faults.Rule rule n) = faults.Rule rule 0
front_of faults.OutOfMemory = faults.OutOfMemory

-- The answer to a step: it is carried out, or refused by the rule of the fault.
abbrev pub Answers : {A : Type 0} → Stepped → Result A BuildFault → Building → Building → Type 0
Answers step (Ok done) old new = IsStepped step old new
Answers step (Err fault) old new = IsRefused step fault

-- The answer to the last step: the tree of all events, or its refusal by the rule of the fault.
abbrev pub Builds : Stepped → Result (List Event) BuildFault → List Event → Type 0
Builds step (Ok tree) w = IsBuilt step w tree
Builds step (Err fault) w = IsRefused step fault
