-- The least prices are accepted.
use Rattle.std.proofs.Common.{◌≡◌, ◌==◌, ℕ, suc, Bool, true, false, not, ◌&&◌, List, [], ◌∷◌, length, map, Some, None, cond, refl, ap, ◌∙◌, subst, arith}
use Rattle.std.proofs.lemmas.Bool.{eq-eqb, le-ltb}
use Rattle.std.proofs.lemmas.List.{length-map}
use Rattle.hm_graph_laws.specs.States.{State}
use Rattle.hm_graph_laws.specs.Units.{Unit}
use Rattle.hm_graph_laws.specs.Layers.{LayerTest, states_after, first_layer, written, written_from}
use Rattle.hm_graph_laws.specs.Prices.{Row, first_price, least_prices, written_rows, full}
use Rattle.hm_graph_laws.specs.Ways.{Edges, least}
use Rattle.hm_graph_laws.proofs.LeastPrices.{least_feasible}
use Rattle.hm_graph_laws.proofs.WrittenRows.{full_is_least, some_written}
use Rattle.hm_check.specs.Rows.{other_width, high_price}
use Rattle.hm_check.specs.Verdicts.{by_first, by_high, by_full, by_width, by_rows}
use Rattle.hm_check.specs.declared.verdicts.Verdict.TheVariants.{Yes, No}
use Rattle.hm_check.specs.declared.verdicts.Why.TheVariants.{WrongLayers}
use Rattle.hm_check.proofs.Feasible.{feasible_high}

-- as many of the least rows are written as layers are
least_count : (edges : Edges) (follows : LayerTest) (k : ℕ) (units : List Unit) (states : List State)
    → length (written_rows edges follows k units states (least_prices edges units states)) ≡ length (written_from edges follows k units states)
least_count edges follows k [] states = refl
least_count edges follows k (unit ∷ units) states = by_test (not (k == 0) && follows unit states) (least_count edges follows (suc k) units (states_after edges unit states))
  where
    after : List State
    after = states_after edges unit states

    rows : List Row
    rows = written_rows edges follows (suc k) units after (least_prices edges units after)

    numbers : List ℕ
    numbers = written_from edges follows (suc k) units after

    by_test : (b : Bool) → length rows ≡ length numbers → length (cond b rows (map (least edges (unit ∷ units)) states ∷ rows)) ≡ length (cond b numbers (k ∷ numbers))
    by_test true e = e
    by_test false e = ap (λ n. suc n) e

-- and each is as wide as its layer
least_width : (edges : Edges) (follows : LayerTest) (k : ℕ) (units : List Unit) (states : List State)
    → other_width edges follows k units states (written_rows edges follows k units states (least_prices edges units states)) ≡ None
least_width edges follows k [] states = rw (eq-eqb (length (map (least edges []) states)) (length states) (length-map states (least edges []))) refl
least_width edges follows k (unit ∷ units) states =
    by_test (not (k == 0) && follows unit states) refl (least_width edges follows (suc k) units (states_after edges unit states)) (some_written edges follows (suc k) units (states_after edges unit states))
  where
    next : List State
    next = states_after edges unit states

    after : List Row
    after = written_rows edges follows (suc k) units next (least_prices edges units next)

    here : Row
    here = map (least edges (unit ∷ units)) states

    by_test : (b : Bool) → (not (k == 0) && follows unit states) ≡ b → other_width edges follows (suc k) units next after ≡ None → (row : Row) × (rows : List Row) × (after ≡ row ∷ rows)
        → other_width edges follows k (unit ∷ units) states (cond b after (here ∷ after)) ≡ None
    by_test true t more (row, rows, e) =
        let left : other_width edges follows (suc k) units next (row ∷ rows) ≡ None = subst (λ r. other_width edges follows (suc k) units next r ≡ None) e more in
        rw (e, t) left
    by_test false t more w = rw (t, eq-eqb (length here) (length states) (length-map states (least edges (unit ∷ units)))) more

-- so a text as long as the first price is accepted
pub least_accepted : (edges : Edges) (follows : LayerTest) (units : List Unit) (n : ℕ) → first_price (least_prices edges units first_layer) ≡ Some n
    → by_rows edges follows n units (written_rows edges follows 0 units first_layer (least_prices edges units first_layer)) ≡ Yes n
least_accepted edges follows units n first =
    let prices : List Row = least_prices edges units first_layer in
    let rows : List Row = written_rows edges follows 0 units first_layer prices in
    let count : (length rows == length (written edges follows units)) ≡ true = eq-eqb (length rows) (length (written edges follows units)) (least_count edges follows 0 units first_layer) in
    let width : other_width edges follows 0 units first_layer rows ≡ None = least_width edges follows 0 units first_layer in
    let whole : full edges follows units rows ≡ Some prices = full_is_least edges follows 0 units first_layer in
    let high : high_price edges 0 units first_layer prices ≡ None = feasible_high edges 0 units first_layer prices (least_feasible edges units first_layer) in
    (λ i. cond (count i) (by_width edges follows n units rows (width i)) (No (WrongLayers (length rows) (length (written edges follows units)))))
    ∙ ap (by_full edges n units) whole ∙ ap (by_high n prices) high ∙ ap (by_first n) first ∙ rw (le-ltb n n (omega arith)) refl
