-- What is built of a tree's graph: the steps so far, where they are recorded, how many they are, and the states after them.
use Rattle.std.specs.Prelude.{◌≡◌, ℕ, ◌+◌, ◌<◌, ◌^◌, List, [], ◌∷◌, ◌++◌, Option, Some, None, length, map, slice_index_or}
use Rattle.std.specs.List.{All}
use Rattle.std.proofs.Math.ListN.{replicate}
use Rattle.hm_graph_laws.specs.Layers.{first_layer, states_after}
use Rattle.hm_graph_laws.specs.Ways.{Edges}
use Rattle.hm_refs.specs.Tables.{TableView}
use Rattle.hm_graph_laws.specs.States as graph
use Rattle.hm_graph_laws.specs.Units as units
use Rattle.hm_graph_laws.specs.Units.{character_units}
use Rattle.hm_edges.specs.Pieces.{piece_bytes}
use Rattle.hm_edges.specs.declared.pieces.Piece.{Piece}
use Rattle.hm_edges.specs.declared.states.State.{State}
use Rattle.hm_graph.specs.Fits.{StepFits}
use Rattle.hm_graph.specs.Steps.{Step}
use Rattle.hm_graph.specs.Graphs.{AreLow, AreNamed, IsLowStep, IsNamedStep}
use Rattle.hm_graph.specs.Layers.{edges_under, states_of}
use Rattle.hm_graph.specs.Interned.{InternedView, list_at, made_at, none_made}
use Rattle.hm_graph.specs.declared.made.MadeStep.{MadeStep}
use Rattle.hm_graph.specs.declared.rules.EdgeRules.{EdgeRules}

-- the steps that were made, those so far where they are recorded, how many there were, and the states of the layer after them
pub record BuildingView : Type 0 where
  pub table : TableView
  pub rules : EdgeRules
  pub made : List MadeStep
  pub recorded : Option (List Step)
  pub len : ℕ
  pub last : List State

-- the steps of these numbers
abbrev pub steps_at : InternedView → List ℕ → List Step
steps_at m numbers = map (λ n. (made_at m n).step) numbers

abbrev pub recorded_at : InternedView → Option (List ℕ) → Option (List Step)
recorded_at m None = None
recorded_at m (Some numbers) = Some (steps_at m numbers)

abbrev pub building : InternedView → Option (List ℕ) → ℕ → ℕ → BuildingView
building m numbers len last = record { table = m.table; rules = m.rules; made = m.steps; recorded = recorded_at m numbers; len = len; last = list_at m last }

-- these steps and more, where steps are recorded
abbrev pub more_steps : Option (List Step) → List Step → Option (List Step)
more_steps None more = None
more_steps (Some steps) more = Some (steps ++ more)

-- these numbers, and one of them `count` times, where numbers are recorded
abbrev pub more_numbers : Option (List ℕ) → ℕ → ℕ → Option (List ℕ)
more_numbers None count number = None
more_numbers (Some numbers) count number = Some (numbers ++ replicate count number)

-- if numbers are recorded, there is room for `count` more
abbrev pub IsFew : Option (List ℕ) → ℕ → Type 0
IsFew None count = Prim.Unit {0}
IsFew (Some numbers) count = length numbers + count < 2 ^ 29

-- if numbers are recorded, they are those of `len` steps
abbrev pub AreThere : InternedView → Option (List ℕ) → ℕ → Type 0
AreThere m None len = Prim.Unit {0}
AreThere m (Some numbers) len = All (λ n. n < length m.steps) numbers × (length numbers ≡ len)

-- the numbers are those of steps, and the last list is there
pub record IsBuilding (m : InternedView) (numbers : Option (List ℕ)) (len last : ℕ) : Type 0 where
  pub numbers_there : AreThere m numbers len
  pub last_there : last < length m.lists
  pub few : len < 2 ^ 29

-- the steps of units lead from a layer with these states to one with the states `after`
abbrev pub Lead : Edges → (units.Unit → Piece → List ℕ) → List units.Unit → List graph.State → List Step → List graph.State → Type 0
Lead edges bytes [] states [] after = states ≡ after
Lead edges bytes [] states (step ∷ steps) after = ⊥
Lead edges bytes (u ∷ us) states [] after = ⊥
Lead edges bytes (u ∷ us) states (step ∷ steps) after =
    StepFits (bytes u) (edges u) (states_after edges u states) states step × Lead edges bytes us (states_after edges u states) steps after

-- no step is there
pub record IsBegun (b : BuildingView) : Type 0 where
  pub last : states_of b.table b.last ≡ first_layer
  pub len : b.len ≡ 0

-- these steps of more units are added at the end
pub record AddsSteps (old new : BuildingView) (more : List units.Unit) (added : List Step) : Type 0 where
  pub table : new.table ≡ old.table
  pub rules : new.rules ≡ old.rules
  pub lead : Lead (edges_under old.table.entries old.rules) (piece_bytes old.table.entries) more (states_of old.table old.last) added (states_of old.table new.last)
  pub named : AreNamed old.table.entries added
  pub low : AreLow added
  pub recorded : new.recorded ≡ more_steps old.recorded added
  pub len : new.len ≡ old.len + length added

-- these steps of characters are added, of which the rest is left
pub record AddsFront (old new : BuildingView) (kind : units.TextKind) (cs rest : List ℕ) (added : List Step) : Type 0 where
  pub done : List units.Unit
  pub adds : AddsSteps old new done added
  pub whole : done ++ character_units kind rest ≡ character_units kind cs

-- the step of a number
abbrev pub numbered_step : BuildingView → ℕ → Step
numbered_step b n = (slice_index_or b.made n none_made).step

-- a step of this number was made
pub record IsMade (b : BuildingView) (number : ℕ) : Type 0 where
  pub there : number < length b.made
  pub named : IsNamedStep b.table.entries (numbered_step b number)
  pub low : IsLowStep (numbered_step b number)

-- all steps of these units are recorded
pub record IsBuilt (b : BuildingView) (us : List units.Unit) : Type 0 where
  pub steps : List Step
  pub lead : Lead (edges_under b.table.entries b.rules) (piece_bytes b.table.entries) us first_layer steps (states_of b.table b.last)
  pub named : AreNamed b.table.entries steps
  pub low : AreLow steps
  pub recorded : b.recorded ≡ Some steps
