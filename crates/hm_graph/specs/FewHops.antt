-- How many hops a state has: as many as edges are left, so that each place among them fits into a byte.
use Rattle.std.specs.Prelude.{ℕ, ◌≤◌, List, [], ◌∷◌, length}
use Rattle.hm_base.specs.declared.plain.Format.{Format}
use Rattle.hm_base.specs.declared.plain.SpellRules.{SpellRules}
use Rattle.hm_edges.specs.declared.pieces.Piece.{Piece}
use Rattle.hm_graph_laws.specs.States.{State}
use Rattle.hm_graph_laws.specs.Units.{Unit}
use Rattle.hm_refs.specs.Names.{Entry}
use Rattle.hm_refs.specs.Tables.{IsTable}
use Rattle.hm_graph.specs.Fits.{StepsFit}
use Rattle.hm_graph.specs.Graphs.{tree_edges}
use Rattle.hm_graph.specs.Steps.{Step}

-- at most 71 hops for each state
abbrev pub IsFewStep : Step → Type 0
IsFewStep [] = Prim.Unit {0}
IsFewStep (hops ∷ step) = (length hops ≤ 71) × IsFewStep step

abbrev pub AreFew : List Step → Type 0
AreFew [] = Prim.Unit {0}
AreFew (step ∷ steps) = IsFewStep step × AreFew steps

-- over steps of the graph of a tree in any format, each state has at most 71 hops
abbrev pub StatesHaveFewHops : Type 0
StatesHaveFewHops = (t : List Entry) → IsTable t → (rules : SpellRules) (format : Format) (bytes : Unit → Piece → List ℕ) (units : List Unit) (states : List State) (steps : List Step) (last : ℕ)
    → StepsFit (tree_edges t rules format) bytes units states steps last → AreFew steps
