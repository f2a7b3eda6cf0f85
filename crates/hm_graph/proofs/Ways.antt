-- Steps of a graph: there is one for each unit, and ways over them are ways of the graph.
use Rattle.std.proofs.Common.{◌≡◌, ◌∙◌, ℕ, suc, List, [], ◌∷◌, ◌++◌, length, refl, ap, slice_index_or}
use Rattle.hm_edges.specs.declared.pieces.Piece.{Piece}
use Rattle.hm_graph_laws.specs.Layers.{states_after}
use Rattle.hm_graph_laws.specs.Ways.{Edges}
use Rattle.hm_refs.specs.Tables.{IsIn, first, later}
use Rattle.hm_graph_laws.specs.Edges.{Edge}
use Rattle.hm_graph_laws.specs.States.{State}
use Rattle.hm_graph_laws.specs.Units.{Unit}
use Rattle.hm_graph.specs.Fits.{HopFits, HopsFit, StepsFit}
use Rattle.hm_graph.specs.Laws.{WaysAreWays}
use Rattle.hm_graph.specs.Steps.{Step}
use Rattle.hm_graph.specs.declared.hops.Hop.{Hop}
use Rattle.hm_graph.proofs.FirstWays.{hops_at}

-- there is a step for each unit
pub steps_count : (edges : Edges) (bytes : Unit → Piece → List ℕ) (units : List Unit) (states : List State) (steps : List Step) (last : ℕ) → StepsFit edges bytes units states steps last → length units ≡ length steps
steps_count edges bytes [] states [] last h = refl
steps_count edges bytes [] states (step ∷ steps) last h = absurd h
steps_count edges bytes (unit ∷ units) states [] last h = absurd h
steps_count edges bytes (unit ∷ units) states (step ∷ steps) last h = ap (λ n. suc n) (steps_count edges bytes units (states_after edges unit states) steps last h.1)

-- the edge that a hop is
record IsEdge (bytes : Piece → List ℕ) (after : List State) (edges : List Edge) (h : Hop) : Type 0 where
  edge : Edge
  among : IsIn edge edges
  fits : HopFits bytes after edge h

edge_of_hop : (bytes : Piece → List ℕ) (after : List State) (edges : List Edge) (hops : List Hop) (h : Hop) → HopsFit bytes after edges hops → IsIn h hops → IsEdge bytes after edges h
edge_of_hop bytes after [] [] h fit among = elim among [ ]
edge_of_hop bytes after [] (x ∷ hops) h fit among = absurd fit
edge_of_hop bytes after (e ∷ edges) [] h fit among = absurd fit
edge_of_hop bytes after (e ∷ edges) (x ∷ hops) h fit (first zs) = record { edge = e; among = first edges; fits = fit.0 }
edge_of_hop bytes after (e ∷ edges) (x ∷ hops) h fit (later y zs i) =
    let found : IsEdge bytes after edges h = edge_of_hop bytes after edges hops h fit.1 i in
    record { edge = found.edge; among = later e edges found.among; fits = found.fits }

pub ways_are_ways : WaysAreWays
ways_are_ways edges bytes [] states [] last s place b fits at way = way
ways_are_ways edges bytes [] states (step ∷ steps) last s place b fits at way = absurd way
ways_are_ways edges bytes (unit ∷ units) states [] last s place b fits at way = absurd way
ways_are_ways edges bytes (unit ∷ units) states (step ∷ steps) last s place b fits at (h, among, (rest, is, more)) =
    let next : List State = states_after edges unit states in
    let found : IsEdge (bytes unit) next (edges unit s) h =
    edge_of_hop (bytes unit) next (edges unit s) (slice_index_or step place []) h (hops_at (bytes unit) next (edges unit) states step s place fits.0 at) among in (
      found.edge,
      found.among,
      (rest, is ∙ ap (λ x. x ++ rest) found.fits.writes, ways_are_ways edges bytes units next steps last found.edge.to h.to rest fits.1 found.fits.to more),
    )
