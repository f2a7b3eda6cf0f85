-- Prices over hops are those over the edges that they are.
use Rattle.std.proofs.Common.{◌≡◌, ℕ, List, [], ◌∷◌, length, map, Option, Some, refl, sym, ap, ◌∙◌, subst}
use Rattle.hm_graph_laws.specs.Edges.{Edge, edge_length}
use Rattle.hm_graph_laws.specs.States.{State}
use Rattle.hm_graph_laws.specs.Units.{Unit}
use Rattle.hm_edges.specs.declared.pieces.Piece.{Piece}
use Rattle.hm_graph_laws.specs.Layers.{states_after}
use Rattle.hm_graph_laws.specs.Prices.{Row, least_prices}
use Rattle.hm_graph_laws.specs.Ways.{Edges, lesser, over, best, least}
use Rattle.hm_graph.specs.Fits.{HopFits, HopsFit, StepFits, StepsFit}
use Rattle.hm_graph.specs.Prices.{price_over, best_price, row_over, first_row, zeros, rows_of}
use Rattle.hm_graph.specs.Steps.{Step}
use Rattle.hm_graph.specs.declared.hops.Hop.{Hop}
use Rattle.hm_graph.proofs.StepPlaces.{Tells, tells_map}

pub price_agrees : (bytes : Piece → List ℕ) (after : List State) (row : Row) (f : State → Option ℕ) (e : Edge) (x : Hop) → Tells after row f → HopFits bytes after e x
    → price_over row x ≡ over (edge_length e) (f e.to)
price_agrees bytes after row f e x tells h = λ i. over (h.len i) (tells e.to x.to h.to i)

pub best_agrees : (bytes : Piece → List ℕ) (after : List State) (row : Row) (f : State → Option ℕ) (edges : List Edge) (hops : List Hop) → Tells after row f → HopsFit bytes after edges hops
    → best_price row hops ≡ best f edges
best_agrees bytes after row f [] [] tells h = refl
best_agrees bytes after row f [] (x ∷ hops) tells h = absurd h
best_agrees bytes after row f (e ∷ edges) [] tells h = absurd h
best_agrees bytes after row f (e ∷ edges) (x ∷ hops) tells h = λ i. lesser (price_agrees bytes after row f e x tells h.0 i) (best_agrees bytes after row f edges hops tells h.1 i)

pub row_agrees : (bytes : Piece → List ℕ) (after : List State) (row : Row) (f : State → Option ℕ) (edges : State → List Edge) (states : List State) (step : Step)
    → Tells after row f → StepFits bytes edges after states step → row_over row step ≡ map (λ s. best f (edges s)) states
row_agrees bytes after row f edges [] [] tells h = refl
row_agrees bytes after row f edges [] (hops ∷ step) tells h = absurd h
row_agrees bytes after row f edges (s ∷ states) [] tells h = absurd h
row_agrees bytes after row f edges (s ∷ states) (hops ∷ step) tells h =
    λ i. best_agrees bytes after row f (edges s) hops tells h.0 i ∷ row_agrees bytes after row f edges states step tells h.1 i

-- the prices of the last layer
zeros_least : (edges : Edges) (states : List State) → zeros (length states) ≡ map (least edges []) states
zeros_least edges [] = refl
zeros_least edges (s ∷ states) = λ i. Some 0 ∷ zeros_least edges states i

first_least : (edges : Edges) (units : List Unit) (states : List State) → first_row (least_prices edges units states) ≡ map (least edges units) states
first_least edges [] states = refl
first_least edges (unit ∷ units) states = refl

-- the first row over steps gives the least price of each state
pub first_tells : (edges : Edges) (bytes : Unit → Piece → List ℕ) (units : List Unit) (states : List State) (steps : List Step) (last : ℕ) → rows_of last steps ≡ least_prices edges units states
    → Tells states (first_row (rows_of last steps)) (least edges units)
first_tells edges bytes units states steps last e =
    subst (λ row. Tells states row (least edges units)) (sym (ap first_row e ∙ first_least edges units states)) (tells_map (least edges units) states)

-- the prices over steps are the least ones
pub rows_least : (edges : Edges) (bytes : Unit → Piece → List ℕ) (units : List Unit) (states : List State) (steps : List Step) (last : ℕ) → StepsFit edges bytes units states steps last
    → rows_of last steps ≡ least_prices edges units states
rows_least edges bytes [] states [] last h = λ i. (ap zeros h ∙ zeros_least edges states) i ∷ []
rows_least edges bytes [] states (step ∷ steps) last h = absurd h
rows_least edges bytes (unit ∷ units) states [] last h = absurd h
rows_least edges bytes (unit ∷ units) states (step ∷ steps) last h =
    let next : List State = states_after edges unit states in
    let more : rows_of last steps ≡ least_prices edges units next = rows_least edges bytes units next steps last h.1 in
    let row : Row = first_row (rows_of last steps) in
    λ i. row_agrees (bytes unit) next row (least edges units) (edges unit) states step (first_tells edges bytes units next steps last more) h.0 i ∷ more i
