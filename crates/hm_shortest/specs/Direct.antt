-- The first way, written while the steps are found.
use Rattle.std.specs.Prelude.{◌≡◌, ℕ, ◌+◌, Bool, true, false, List, [], ◌∷◌, ◌++◌, length, map, Option, Some, None}
use Rattle.std.proofs.Math.ListN.{replicate}
use Rattle.hm_base.specs.declared.plain.Format.TheVariants.{Sparse}
use Rattle.hm_edges.specs.Pieces.{own_bytes}
use Rattle.hm_edges.specs.declared.pieces.Piece.TheVariants as pieces
use Rattle.hm_graph.specs.Graphs.{only_hop}
use Rattle.hm_graph.specs.Prices.{zeros}
use Rattle.hm_graph.specs.Steps.{Step, leaves_out}
use Rattle.hm_graph.specs.declared.hops.Hop.{Hop}
use Rattle.hm_graph_laws.specs.Prices.{Row}
use Rattle.hm_graph_laws.specs.Units.{TextKind, Unit, character_units}
use Rattle.hm_shortest.specs.Stretches.{IsWritten, Place, base, owns_in, placed, steps_in}
use Rattle.hm_shortest.specs.declared.direct.DirectWay.{DirectWay}
use Rattle.hm_refs.specs.Names.{Entry}

abbrev pub place_of : DirectWay → Place
place_of way = record { total = way.total; out = way.out.items; rows = way.rows }

-- whether a certificate leaves the first layer out by its step, where that is known; these steps are left
abbrev pub FirstIs : Option Bool → List Step → Option Bool → Type 0
FirstIs (Some known) steps first = first ≡ Some known
FirstIs None [] first = first ≡ None
FirstIs None (step ∷ steps) first = first ≡ Some (leaves_out Sparse step)

-- the first way over the steps that are kept, and over these steps of units, is what is left to be written up to the end
abbrev pub IsOn : DirectWay → List Entry → List Unit → List Step → DirectWay → Type 0
IsOn end t units steps way =
    IsWritten t end.last (owns_in way.stretch.items ++ map own_bytes units) (steps_in way.stretch.items ++ steps) (place_of way) (place_of end)

-- The way goes on over these units and their steps, and ends as `end` is.
abbrev pub GoesDirectly : DirectWay → List Entry → List Unit → List Step → DirectWay → Type 0
GoesDirectly end t units steps way = FirstIs way.first steps end.first × IsOn end t units steps way

-- what goes on from the new place goes on from the old one
abbrev pub GoesHere : List Entry → DirectWay → DirectWay → Type 0
GoesHere t old new = (end : DirectWay) (units : List Unit) (steps : List Step) → IsOn end t units steps new → IsOn end t units steps old

-- what goes on from the new place goes on from the old one over this step, whose unit has these bytes of its own
abbrev pub IsOver : List Entry → Step → List ℕ → DirectWay → DirectWay → Type 0
IsOver t step own old new = (end : DirectWay) (u : Unit) (units : List Unit) (steps : List Step) → own_bytes u ≡ own → IsOn end t units steps new → IsOn end t (u ∷ units) (step ∷ steps) old

abbrev pub GoesOverOne : List Entry → Step → List ℕ → DirectWay → DirectWay → Type 0
GoesOverOne t step own old new = (end : DirectWay) (u : Unit) (units : List Unit) (steps : List Step) → own_bytes u ≡ own → GoesDirectly end t units steps new → GoesDirectly end t (u ∷ units) (step ∷ steps) old

-- and over this step, once for each of these characters
abbrev pub GoesOverAlike : List Entry → Step → List ℕ → DirectWay → DirectWay → Type 0
GoesOverAlike t step bytes old new =
    (end : DirectWay) (kind : TextKind) (rest : List ℕ) (units : List Unit) (steps : List Step) → GoesDirectly end t (character_units kind rest ++ units) steps new
    → GoesDirectly end t (character_units kind (bytes ++ rest) ++ units) (replicate (length bytes) step ++ steps) old

-- one hop, which copies one byte and leads to one state
pub record CopiesOne (step : Step) : Type 0 where
  pub hop : Hop
  pub only : only_hop step ≡ Some hop
  pub itself : hop.piece ≡ pieces.Itself
  pub to : hop.to ≡ 0
  pub len : hop.len ≡ 1

-- the steps that were kept are written, up to one of `last` states
pub record IsSettled (t : List Entry) (last : ℕ) (old new : DirectWay) : Type 0 where
  pub none : new.stretch.items ≡ []
  pub first : new.first ≡ old.first
  pub last_is : new.last ≡ last
  pub written : IsWritten t last (owns_in old.stretch.items) (steps_in old.stretch.items) (place_of old) (place_of new)

abbrev pub first_line : Option Bool → ℕ → List Row
first_line (Some true) total = (Some total ∷ []) ∷ []
first_line (Some false) total = []
first_line None total = []

-- the rows of the certificate of a way that is written whole
abbrev pub rows_in : DirectWay → List Row
rows_in way = first_line way.first way.total ++ (map (placed (base + way.total)) way.rows ++ zeros way.last ∷ [])
