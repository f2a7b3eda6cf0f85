-- Prices (potentials: the cost to go) for the states of the layers: the least ones, those that show a bound by themselves,
-- and those that are written.
use Rattle.std.specs.Prelude.{◌≡◌, ◌≤◌, ℕ, suc, ◌+◌, Bool, not, ◌&&◌, ◌==◌, List, [], ◌∷◌, length, map, Option, Some, None, if◌then◌else◌}
use Rattle.hm_graph_laws.specs.Layers.{LayerTest, states_after, first_layer}
use Rattle.hm_graph_laws.specs.Ways.{Edges, best, least}
use Rattle.hm_graph_laws.specs.Edges.{Edge, edge_length}
use Rattle.hm_graph_laws.specs.States.{State, same_state}
use Rattle.hm_graph_laws.specs.Units.{Unit}

abbrev pub Row : Type 0
Row = List (Option ℕ)

-- the price of a state by the prices of its layer
abbrev pub price_at : List State → Row → State → Option ℕ
price_at [] prices s = None
price_at (t ∷ states) [] s = None
price_at (t ∷ states) (q ∷ prices) s = if same_state t s then q else price_at states prices s

-- ---- Least prices

-- the least prices of all layers from one on, that layer's states being these
abbrev pub least_prices : Edges → List Unit → List State → List Row
least_prices es [] states = map (least es []) states ∷ []
least_prices es (unit ∷ units) states = map (least es (unit ∷ units)) states ∷ least_prices es units (states_after es unit states)

-- ---- Prices that show a bound by themselves

-- A price keeps the rule at an edge: a number is at most the edge's length plus the price at the edge's end. An infinite
-- price at the end bounds nothing, and if a price is infinite, so is the price at the end.
abbrev pub KeepsEdge : Option ℕ → ℕ → Option ℕ → Type 0
KeepsEdge price n None = Prim.Unit {0}
KeepsEdge None n (Some b) = ⊥
KeepsEdge (Some a) n (Some b) = a ≤ n + b

abbrev pub KeepsEdges : Option ℕ → (State → Option ℕ) → List Edge → Type 0
KeepsEdges price after [] = Prim.Unit {0}
KeepsEdges price after (e ∷ es) = KeepsEdge price (edge_length e) (after e.to) × KeepsEdges price after es

-- a price for each state, and each price keeps the rule at the edges of the unit
abbrev pub KeepsLayer : Edges → Unit → (State → Option ℕ) → List State → Row → Type 0
KeepsLayer es unit after [] [] = Prim.Unit {0}
KeepsLayer es unit after [] (q ∷ row) = ⊥
KeepsLayer es unit after (s ∷ states) [] = ⊥
KeepsLayer es unit after (s ∷ states) (q ∷ row) = KeepsEdges q after (es unit s) × KeepsLayer es unit after states row

-- a price for each state, and each is 0
abbrev pub AreZero : List State → Row → Type 0
AreZero [] [] = Prim.Unit {0}
AreZero [] (q ∷ row) = ⊥
AreZero (s ∷ states) [] = ⊥
AreZero (s ∷ states) (q ∷ row) = (q ≡ Some 0) × AreZero states row

-- layers and widths are those of the graph from one layer on, and each price keeps the rules
abbrev pub FeasibleFrom : Edges → List Unit → List State → List Row → Type 0
FeasibleFrom es units states [] = ⊥
FeasibleFrom es [] states (row ∷ []) = AreZero states row
FeasibleFrom es [] states (row ∷ next ∷ rows) = ⊥
FeasibleFrom es (unit ∷ units) states (row ∷ []) = ⊥
FeasibleFrom es (unit ∷ units) states (row ∷ next ∷ rows) =
    KeepsLayer es unit (price_at (states_after es unit states) next) states row × FeasibleFrom es units (states_after es unit states) (next ∷ rows)

abbrev pub Feasible : Edges → List Unit → List Row → Type 0
Feasible es units rows = FeasibleFrom es units first_layer rows

-- the first price of all
abbrev pub first_price : List Row → Option ℕ
first_price [] = None
first_price ([] ∷ rows) = None
first_price ((q ∷ row) ∷ rows) = q

-- ---- Written prices, and all that they stand for

-- of the rows of all layers those that are written; k is the number of the layer whose states these are
abbrev pub written_rows : Edges → LayerTest → ℕ → List Unit → List State → List Row → List Row
written_rows es follows k units states [] = []
written_rows es follows k [] states (row ∷ rows) = row ∷ []
written_rows es follows k (unit ∷ units) states (row ∷ rows) =
    if not (k == 0) && follows unit states then written_rows es follows (suc k) units (states_after es unit states) rows
    else row ∷ written_rows es follows (suc k) units (states_after es unit states) rows

abbrev pub has_width : List State → Row → Bool
has_width states row = length row == length states

-- the prices of a layer that is left out: over the only edge of each state
abbrev pub row_over : Edges → Unit → List State → (State → Option ℕ) → Row
row_over es unit states after = map (λ s. best after (es unit s)) states

abbrev pub with_row : Row → Option (List Row) → Option (List Row)
with_row row None = None
with_row row (Some rows) = Some (row ∷ rows)

-- a row that follows from the first of the next rows
abbrev pub followed_by : Edges → Unit → List State → Option (List Row) → Option (List Row)
followed_by es unit states None = None
followed_by es unit states (Some []) = None
followed_by es unit states (Some (next ∷ rows)) = Some (row_over es unit states (price_at (states_after es unit states) next) ∷ next ∷ rows)

-- the rows of all layers from one on, by those that are written; None where these are too few or too many or of another
-- width
abbrev pub full_from : Edges → LayerTest → ℕ → List Unit → List State → List Row → Option (List Row)
full_from es follows k [] states [] = None
full_from es follows k [] states (row ∷ []) = if has_width states row then Some (row ∷ []) else None
full_from es follows k [] states (row ∷ more ∷ rows) = None
full_from es follows k (unit ∷ units) states [] = None
full_from es follows k (unit ∷ units) states (row ∷ rows) =
    if not (k == 0) && follows unit states then followed_by es unit states (full_from es follows (suc k) units (states_after es unit states) (row ∷ rows))
    else if has_width states row then with_row row (full_from es follows (suc k) units (states_after es unit states) rows)
    else None

-- the prices of all layers that written ones stand for
abbrev pub full : Edges → LayerTest → List Unit → List Row → Option (List Row)
full es follows units rows = full_from es follows 0 units first_layer rows
