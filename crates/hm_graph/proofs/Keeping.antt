-- Prices keep the rules over steps where they do in the graph.
use Rattle.std.proofs.Common.{◌≡◌, ℕ, List, [], ◌∷◌, length, Option, None, refl, sym, ap, ◌∙◌, subst, slice_index_or}
use Rattle.hm_graph_laws.specs.Edges.{Edge, edge_length}
use Rattle.hm_graph_laws.specs.States.{State}
use Rattle.hm_graph_laws.specs.Units.{Unit}
use Rattle.hm_edges.specs.declared.pieces.Piece.{Piece}
use Rattle.hm_graph_laws.specs.Layers.{states_after}
use Rattle.hm_graph_laws.specs.Prices.{Row, price_at, KeepsEdge, KeepsEdges, KeepsLayer, AreZero, FeasibleFrom}
use Rattle.hm_graph_laws.specs.Ways.{Edges}
use Rattle.hm_graph.specs.Fits.{HopFits, HopsFit, StepFits, StepsFit}
use Rattle.hm_graph.specs.Prices.{zeros, KeepsHops, KeepsStep, KeepsRows}
use Rattle.hm_graph.specs.Steps.{Step}
use Rattle.hm_graph.specs.declared.hops.Hop.{Hop}
use Rattle.hm_graph.proofs.StepPlaces.{Tells, tells_price}

-- a price keeps the same rule at a hop and at its edge
hop_keeps : (bytes : Piece → List ℕ) (after : List State) (row : Row) (f : State → Option ℕ) (price : Option ℕ) (e : Edge) (x : Hop) → Tells after row f → HopFits bytes after e x
    → KeepsEdge price x.len (slice_index_or row x.to None) ≡ KeepsEdge price (edge_length e) (f e.to)
hop_keeps bytes after row f price e x tells h = λ i. KeepsEdge price (h.len i) (tells e.to x.to h.to i)

hops_keep : (bytes : Piece → List ℕ) (after : List State) (row : Row) (f : State → Option ℕ) (price : Option ℕ) (edges : List Edge) (hops : List Hop) → Tells after row f → HopsFit bytes after edges hops
    → KeepsHops price row hops ≡ KeepsEdges price f edges
hops_keep bytes after row f price [] [] tells h = refl
hops_keep bytes after row f price [] (x ∷ hops) tells h = absurd h
hops_keep bytes after row f price (e ∷ edges) [] tells h = absurd h
hops_keep bytes after row f price (e ∷ edges) (x ∷ hops) tells h =
    λ i. hop_keeps bytes after row f price e x tells h.0 i × hops_keep bytes after row f price edges hops tells h.1 i

step_keeps : (edges : Edges) (bytes : Piece → List ℕ) (after : List State) (next : Row) (f : State → Option ℕ) (unit : Unit) (states : List State) (step : Step) (row : Row)
    → Tells after next f → StepFits bytes (edges unit) after states step → KeepsStep next step row ≡ KeepsLayer edges unit f states row
step_keeps edges bytes after next f unit [] [] [] tells h = refl
step_keeps edges bytes after next f unit [] [] (price ∷ row) tells h = refl
step_keeps edges bytes after next f unit [] (hops ∷ step) row tells h = absurd h
step_keeps edges bytes after next f unit (s ∷ states) [] row tells h = absurd h
step_keeps edges bytes after next f unit (s ∷ states) (hops ∷ step) [] tells h = refl
step_keeps edges bytes after next f unit (s ∷ states) (hops ∷ step) (price ∷ row) tells h =
    λ i. hops_keep bytes after next f price (edges unit s) hops tells h.0 i × step_keeps edges bytes after next f unit states step row tells h.1 i

zeros_are : (states : List State) (row : Row) → row ≡ zeros (length states) → AreZero states row
zeros_are [] [] e = tt
zeros_are [] (price ∷ row) e = absurd (cc)
zeros_are (s ∷ states) [] e = absurd (cc)
zeros_are (s ∷ states) (price ∷ row) e = (cc, zeros_are states row (cc))

are_zeros : (states : List State) (row : Row) → AreZero states row → row ≡ zeros (length states)
are_zeros [] [] z = refl
are_zeros [] (price ∷ row) z = absurd z
are_zeros (s ∷ states) [] z = absurd z
are_zeros (s ∷ states) (price ∷ row) z = λ i. z.0 i ∷ are_zeros states row z.1 i

-- prices that keep the rules over steps do so in the graph
pub keeps_feasible : (edges : Edges) (bytes : Unit → Piece → List ℕ) (units : List Unit) (states : List State) (steps : List Step) (last : ℕ) (rows : List Row)
    → StepsFit edges bytes units states steps last → KeepsRows last steps rows → FeasibleFrom edges units states rows
keeps_feasible edges bytes units states steps last [] h k = absurd k
keeps_feasible edges bytes [] states [] last (row ∷ []) h k = zeros_are states row (k ∙ ap zeros h)
keeps_feasible edges bytes [] states [] last (row ∷ next ∷ rows) h k = absurd k
keeps_feasible edges bytes [] states (step ∷ steps) last (row ∷ rows) h k = absurd h
keeps_feasible edges bytes (unit ∷ units) states [] last (row ∷ rows) h k = absurd h
keeps_feasible edges bytes (unit ∷ units) states (step ∷ steps) last (row ∷ []) h k = absurd k
keeps_feasible edges bytes (unit ∷ units) states (step ∷ steps) last (row ∷ next ∷ rows) h k =
    let after : List State = states_after edges unit states in (
      subst (λ A. A) (step_keeps edges (bytes unit) after next (price_at after next) unit states step row (tells_price after next) h.0) k.0,
      keeps_feasible edges bytes units after steps last (next ∷ rows) h.1 k.1,
    )

-- prices that keep the rules in the graph do so over steps
pub feasible_keeps : (edges : Edges) (bytes : Unit → Piece → List ℕ) (units : List Unit) (states : List State) (steps : List Step) (last : ℕ) (rows : List Row)
    → StepsFit edges bytes units states steps last → FeasibleFrom edges units states rows → KeepsRows last steps rows
feasible_keeps edges bytes units states steps last [] h f = absurd f
feasible_keeps edges bytes [] states [] last (row ∷ []) h f = are_zeros states row f ∙ sym (ap zeros h)
feasible_keeps edges bytes [] states [] last (row ∷ next ∷ rows) h f = absurd f
feasible_keeps edges bytes [] states (step ∷ steps) last (row ∷ rows) h f = absurd h
feasible_keeps edges bytes (unit ∷ units) states [] last (row ∷ rows) h f = absurd h
feasible_keeps edges bytes (unit ∷ units) states (step ∷ steps) last (row ∷ []) h f = absurd f
feasible_keeps edges bytes (unit ∷ units) states (step ∷ steps) last (row ∷ next ∷ rows) h f =
    let after : List State = states_after edges unit states in (
      subst (λ A. A) (sym (step_keeps edges (bytes unit) after next (price_at after next) unit states step row (tells_price after next) h.0)) f.0,
      feasible_keeps edges bytes units after steps last (next ∷ rows) h.1 f.1,
    )
