-- How many edges a state has.
use Rattle.std.specs.Prelude.{◌≤◌, length}
use Rattle.hm_graph_laws.specs.States.{State}
use Rattle.hm_graph_laws.specs.UnitEdges.{edges_of}
use Rattle.hm_graph_laws.specs.Units.{Unit}
use Rattle.hm_refs.specs.Tables.{IsTable}
use Rattle.hm_spelling_spec.specs.Tags.{Spelling}

-- A character has at most 71 edges from a state: as itself, by the at most 64 names that a table has for it, alone or with the next
-- one, by two forms of each of two numbers, and by a section that goes on or ends. Other units have fewer.
abbrev pub StatesHaveFewEdges : Type 0
StatesHaveFewEdges = (g : Spelling) → IsTable g.table → (unit : Unit) (s : State) → length (edges_of g unit s) ≤ 71
