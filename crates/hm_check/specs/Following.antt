-- How far a text follows the steps of a graph.
use Rattle.std.specs.Prelude.{◌≡◌, ◌++◌, ℕ, List, length}
use Rattle.std.proofs.Math.ListN.{replicate}
use Rattle.hm_edges.specs.Pieces.{piece_bytes}
use Rattle.hm_edges.specs.declared.pieces.Piece.{Piece}
use Rattle.hm_refs.specs.Names.{Entry}
use Rattle.hm_refs.specs.Tables.{IsIn}
use Rattle.hm_graph.specs.Steps.{Step}
use Rattle.hm_graph.specs.Ways.{WayOver}
use Rattle.hm_graph.specs.declared.hops.Hop.{Hop}
use Rattle.hm_graph_laws.specs.Units.{TextKind, Unit, character_units}
use Rattle.hm_check.specs.declared.followed.Followed.{Followed}
use Rattle.hm_check.specs.declared.followed.Taken.{Taken}

-- the text begins with the bytes of a hop, by what a piece writes, and this is left
abbrev pub LeadsTo : (Piece → List ℕ) → Hop → List ℕ → Taken → Type 0
LeadsTo bytes h text taken = (taken.to ≡ h.to) × (text ≡ bytes h.piece ++ taken.rest.now)

-- one of the hops leads there
pub record IsOver (bytes : Piece → List ℕ) (hops : List Hop) (text : List ℕ) (taken : Taken) : Type 0 where
  pub hop : Hop
  pub among : IsIn hop hops
  pub leads : LeadsTo bytes hop text taken

-- what is left of the text is a way over these units and their steps, from the place that was reached
abbrev pub IsWayOn : List Entry → List Unit → List Step → Followed → Type 0
IsWayOn t units steps way = WayOver (piece_bytes t) units steps way.place way.rest.now

-- what goes on from the new place goes on from the old one over this step, once for each of these characters
abbrev pub GoesOverAlike : List Entry → Step → List ℕ → Followed → Followed → Type 0
GoesOverAlike t step bytes old new =
    (kind : TextKind) (rest : List ℕ) (more : List Unit) (steps : List Step) → IsWayOn t (character_units kind rest ++ more) steps new → IsWayOn t (character_units kind (bytes ++ rest) ++ more) (replicate (length bytes) step ++ steps) old
