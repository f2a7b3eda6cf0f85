-- What is true of ways and prices, over any edges.
use Rattle.std.specs.Prelude.{◌≡◌, ◌≤◌, ℕ, List, length, Some}
use Rattle.hm_graph_laws.specs.States.{State, first_state, same_state}
use Rattle.hm_graph_laws.specs.Units.{Unit}
use Rattle.std.specs.Prelude.{true}
use Rattle.hm_graph_laws.specs.Layers.{LayerTest, first_layer}
use Rattle.hm_graph_laws.specs.Prices.{Row, Feasible, first_price, least_prices, written_rows, full}
use Rattle.hm_graph_laws.specs.Ways.{Edges, Way, least, first_way}

-- equality of states is equality
abbrev pub SameStatesAreEqual : Type 0
SameStatesAreEqual = (s t : State) → (same_state s t ≡ true → s ≡ t) × (s ≡ t → same_state s t ≡ true)

-- Prices that keep the rules bound every way by the first of them.
abbrev pub FeasiblePricesBound : Type 0
FeasiblePricesBound = (edges : Edges) (units : List Unit) (prices : List Row) (n : ℕ) (b : List ℕ) → Feasible edges units prices → first_price prices ≡ Some n → Way edges units first_state b → n ≤ length b

-- The least prices keep the rules.
abbrev pub LeastPricesAreFeasible : Type 0
LeastPricesAreFeasible = (edges : Edges) (units : List Unit) → Feasible edges units (least_prices edges units first_layer)

-- The first of the least prices is that of the first state.
abbrev pub FirstPriceIsLeast : Type 0
FirstPriceIsLeast = (edges : Edges) (units : List Unit) → first_price (least_prices edges units first_layer) ≡ least edges units first_state

-- Where a state has a way, its least price is a number, and no way has fewer bytes.
abbrev pub LeastPricesBound : Type 0
LeastPricesBound = (edges : Edges) (units : List Unit) (s : State) (b : List ℕ) → Way edges units s b → (n : ℕ) × (least edges units s ≡ Some n) × (n ≤ length b)

-- The first way of a least price is a way, and has that length.
abbrev pub LeastPricesAreReached : Type 0
LeastPricesAreReached = (edges : Edges) (units : List Unit) (s : State) (n : ℕ) → least edges units s ≡ Some n → Way edges units s (first_way edges units s) × (length (first_way edges units s) ≡ n)

-- The written least prices stand for all the least prices, whatever is left out.
abbrev pub WrittenPricesAreWhole : Type 0
WrittenPricesAreWhole = (edges : Edges) (follows : LayerTest) (units : List Unit)
    → full edges follows units (written_rows edges follows 0 units first_layer (least_prices edges units first_layer)) ≡ Some (least_prices edges units first_layer)
