-- What is wrong with the rows of a certificate.
use Rattle.std.specs.Prelude.{ℕ, suc, Bool, true, false, not, ◌&&◌, ◌==◌, nat_lt, List, [], ◌∷◌, length, map, Option, Some, None, if◌then◌else◌}
use Rattle.hm_graph_laws.specs.Layers.{LayerTest, states_after}
use Rattle.hm_graph_laws.specs.Prices.{Row, price_at}
use Rattle.hm_graph_laws.specs.Ways.{Edges, best}
use Rattle.hm_graph_laws.specs.States.{State}
use Rattle.hm_graph_laws.specs.Units.{Unit}

-- a layer, the number of its prices, and how many are wanted
pub record OtherWidth : Type 0 where
  pub layer : ℕ
  pub got : ℕ
  pub want : ℕ

-- The first written layer from layer k on whose row has another width; rows that aren't there, and those after the last
-- layer, are none.
abbrev pub other_width : Edges → LayerTest → ℕ → List Unit → List State → List Row → Option OtherWidth
other_width edges follows k units states [] = None
other_width edges follows k [] states (row ∷ rows) = if length row == length states then None else Some (record { layer = k; got = length row; want = length states })
other_width edges follows k (unit ∷ units) states (row ∷ rows) =
    if not (k == 0) && follows unit states then other_width edges follows (suc k) units (states_after edges unit states) (row ∷ rows)
    else if length row == length states then other_width edges follows (suc k) units (states_after edges unit states) rows
    else Some (record { layer = k; got = length row; want = length states })

-- A price above its bound: a number above a number, or an infinite price (None) if the bound is a number.
abbrev pub is_above : Option ℕ → Option ℕ → Bool
is_above price None = false
is_above None (Some b) = true
is_above (Some a) (Some b) = nat_lt b a

-- a layer and a state of it, its price and its bound
pub record HighPrice : Type 0 where
  pub layer : ℕ
  pub state : ℕ
  pub price : Option ℕ
  pub bound : Option ℕ

-- the first price of a row above its bound
abbrev pub high_in : ℕ → ℕ → Row → Row → Option HighPrice
high_in k i [] bounds = None
high_in k i (price ∷ row) [] = None
high_in k i (price ∷ row) (bound ∷ bounds) = if is_above price bound then Some (record { layer = k; state = i; price = price; bound = bound }) else high_in k (suc i) row bounds

-- a price of the last layer that isn't 0
abbrev pub high_at_end : ℕ → ℕ → Row → Option HighPrice
high_at_end k i [] = None
high_at_end k i (price ∷ row) = if is_zero price then high_at_end k (suc i) row else Some (record { layer = k; state = i; price = price; bound = Some 0 })
  where
    is_zero : Option ℕ → Bool
    is_zero None = false
    is_zero (Some n) = n == 0

abbrev pub or_else : Option HighPrice → Option HighPrice → Option HighPrice
or_else None other = other
or_else (Some found) other = Some found

-- the bounds of the states of a layer, by the next layer's prices
abbrev pub bounds_of : Edges → Unit → List State → Row → Row
bounds_of edges unit states next_row = map (λ s. best (price_at (states_after edges unit states) next_row) (edges unit s)) states

-- the first price above its bound, from layer k on
abbrev pub high_price : Edges → ℕ → List Unit → List State → List Row → Option HighPrice
high_price edges k units states [] = None
high_price edges k [] states (row ∷ rows) = high_at_end k 0 row
high_price edges k (unit ∷ units) states (row ∷ []) = None
high_price edges k (unit ∷ units) states (row ∷ next ∷ rows) =
    or_else (high_in k 0 row (bounds_of edges unit states next)) (high_price edges (suc k) units (states_after edges unit states) (next ∷ rows))
