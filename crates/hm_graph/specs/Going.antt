-- A visitor that is called for each step while a graph is built.
use Rattle.std.specs.Prelude.{◌≡◌, ℕ, ◌<◌, ◌^◌, List, [], ◌++◌, length}
use Rattle.hm_refs.specs.Names.{Entry}
use Rattle.hm_graph.specs.Steps.{Step}
use Rattle.hm_graph.specs.Graphs.{GraphSource, IsGraph}
use Rattle.hm_graph_laws.specs.Units.{TextKind, Unit, character_units, units_of}
use Rattle.hm_graph.specs.Building.{AddsSteps}
use Rattle.hm_graph.specs.declared.along.Along.{Along}
use Rattle.hm_graph.specs.declared.walked.Walked.{Walked}

-- The steps of some units were added, and of the units `from` those in `left` remain. C is what it means to go on over
-- units and their steps by the names of a table, to an end: what goes on from the new place over what is left goes on from the old
-- one over all.
pub record Goes {V : Type 0} (C : V → List Entry → List Unit → List Step → V → Type 0) (from left : List Unit) (old new : Along V) : Type 0 where
  pub done : List Unit
  pub added : List Step
  pub adds : AddsSteps old.graph new.graph done added
  pub whole : done ++ left ≡ from
  pub on : (end : V) (units : List Unit) (steps : List Step) → C end old.graph.table.entries (left ++ units) steps new.by → C end old.graph.table.entries (from ++ units) (added ++ steps) old.by

-- from these characters on up to those that are left of them
abbrev pub GoesOver : {V : Type 0} → (V → List Entry → List Unit → List Step → V → Type 0) → TextKind → List ℕ → List ℕ → Along V → Along V → Type 0
GoesOver C kind cs left old new = Goes C (character_units kind cs) (character_units kind left) old new

-- A walk over all steps of a tree: `walked` has the number of steps and of the states of the last layer, and the visitor that ends
-- as `by` started as `start`.
pub record IsWalk {V : Type 0} (C : V → List Entry → List Unit → List Step → V → Type 0) (source : GraphSource) (start : V) (walked : Walked) (by : V) : Type 0 where
  pub steps : List Step
  pub graph : IsGraph (record { source = source; steps = steps; runs = []; last = walked.last })
  pub len : walked.len ≡ length steps
  pub few : length steps < 2 ^ 29
  pub on : (end : V) → C end source.table.entries [] [] by → C end source.table.entries (units_of source.rules source.tree) steps start
