-- The rows of least prices that are left out follow from those that are written.
use Rattle.std.proofs.Common.{◌≡◌, ℕ, suc, Bool, List, [], ◌∷◌, length, map, Option, Some, true, false, not, ◌&&◌, ◌==◌, cond, refl, subst}
use Rattle.std.proofs.lemmas.List.{length-map}
use Rattle.std.proofs.lemmas.Bool.{eq-eqb}
use Rattle.hm_graph_laws.specs.States.{State}
use Rattle.hm_graph_laws.specs.Units.{Unit}
use Rattle.hm_graph_laws.specs.Ways.{Edges, best, least}
use Rattle.hm_graph_laws.specs.Layers.{LayerTest, states_after}
use Rattle.hm_graph_laws.specs.Prices.{Row, price_at, least_prices, written_rows, has_width, row_over, followed_by, full_from}
use Rattle.hm_graph_laws.proofs.LayerStates.{end_after, price_at-map, best_same, map_same}

-- a row of least prices has the width of its layer
least_width : (edges : Edges) (units : List Unit) (states : List State) → has_width states (map (least edges units) states) ≡ true
least_width edges units states = eq-eqb (length (map (least edges units) states)) (length states) (length-map states (least edges units))

-- a row of least prices follows from the next row
least_follows : (edges : Edges) (unit : Unit) (units : List Unit) (states : List State)
    → row_over edges unit states (price_at (states_after edges unit states) (map (least edges units) (states_after edges unit states))) ≡ map (least edges (unit ∷ units)) states
least_follows edges unit units states =
    let after : State → Option ℕ = price_at (states_after edges unit states) (map (least edges units) (states_after edges unit states)) in
    map_same (λ s. best after (edges unit s)) (least edges (unit ∷ units)) states
    (λ s i. best_same after (least edges units) (edges unit s) (λ e j. price_at-map (least edges units) (states_after edges unit states) e.to (end_after edges s e unit states i j)))

-- the least prices from a layer on, with the first row written out
least_first : (edges : Edges) (units : List Unit) (states : List State) → (rows : List Row) × (least_prices edges units states ≡ map (least edges units) states ∷ rows)
least_first edges [] states = ([], refl)
least_first edges (unit ∷ units) states = (least_prices edges units (states_after edges unit states), refl)

followed : (edges : Edges) (unit : Unit) (units : List Unit) (states : List State)
    → followed_by edges unit states (Some (least_prices edges units (states_after edges unit states))) ≡ Some (least_prices edges (unit ∷ units) states)
followed edges unit units states = by_first (least_first edges units (states_after edges unit states))
  where
    by_first : (rows : List Row) × (least_prices edges units (states_after edges unit states) ≡ map (least edges units) (states_after edges unit states) ∷ rows)
        → followed_by edges unit states (Some (least_prices edges units (states_after edges unit states))) ≡ Some (least_prices edges (unit ∷ units) states)
    by_first (rows, e) = rw (e, least_follows edges unit units states) refl

-- some row is written: at least that of the last layer
pub some_written : (edges : Edges) (follows : LayerTest) (k : ℕ) (units : List Unit) (states : List State)
    → (row : Row) × (rows : List Row) × (written_rows edges follows k units states (least_prices edges units states) ≡ row ∷ rows)
some_written edges follows k [] states = (map (least edges []) states, [], refl)
some_written edges follows k (unit ∷ units) states = by_test (not (k == 0) && follows unit states) (some_written edges follows (suc k) units (states_after edges unit states))
  where
    after : List Row
    after = written_rows edges follows (suc k) units (states_after edges unit states) (least_prices edges units (states_after edges unit states))

    by_test : (b : Bool) → (row : Row) × (rows : List Row) × (after ≡ row ∷ rows)
        → (row : Row) × (rows : List Row) × (cond b after (map (least edges (unit ∷ units)) states ∷ after) ≡ row ∷ rows)
    by_test true w = w
    by_test false w = (map (least edges (unit ∷ units)) states, after, refl)

-- The written least prices stand for all the least prices.
pub full_is_least : (edges : Edges) (follows : LayerTest) (k : ℕ) (units : List Unit) (states : List State)
    → full_from edges follows k units states (written_rows edges follows k units states (least_prices edges units states)) ≡ Some (least_prices edges units states)
full_is_least edges follows k [] states = rw (least_width edges [] states) refl
full_is_least edges follows k (unit ∷ units) states =
    by_test (not (k == 0) && follows unit states) refl (full_is_least edges follows (suc k) units (states_after edges unit states)) (some_written edges follows (suc k) units (states_after edges unit states))
  where
    next : List State
    next = states_after edges unit states

    after : List Row
    after = written_rows edges follows (suc k) units next (least_prices edges units next)

    here : Row
    here = map (least edges (unit ∷ units)) states

    by_test : (b : Bool) → (not (k == 0) && follows unit states) ≡ b → full_from edges follows (suc k) units next after ≡ Some (least_prices edges units next)
        → (row : Row) × (rows : List Row) × (after ≡ row ∷ rows)
        → full_from edges follows k (unit ∷ units) states (cond b after (here ∷ after)) ≡ Some (here ∷ least_prices edges units next)
    by_test true t more (row, rows, e) =
        let left : full_from edges follows (suc k) units next (row ∷ rows) ≡ Some (least_prices edges units next) = subst (λ r. full_from edges follows (suc k) units next r ≡ Some (least_prices edges units next)) e more in
        rw (e, t, left) (followed edges unit units states)
    by_test false t more w = rw (t, least_width edges (unit ∷ units) states, more) refl
