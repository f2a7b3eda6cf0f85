-- Prices of which none is above its bound keep the rules, and the other way round.
use Rattle.std.proofs.Common.{◌≡◌, ◌≤◌, ◌+◌, ◌==◌, ℕ, suc, Bool, true, false, not, ◌&&◌, List, [], ◌∷◌, length, map, min, Option, Some, None, cond, refl, sym, ap, subst, arith}
use Rattle.std.proofs.lemmas.Bool.{eqb-true, ltb-false, le-ltb}
use Rattle.std.proofs.lemmas.List.{length-map}
use Rattle.hm_graph_laws.specs.Edges.{Edge, edge_length}
use Rattle.hm_graph_laws.specs.States.{State}
use Rattle.hm_graph_laws.specs.Units.{Unit}
use Rattle.hm_graph_laws.specs.Layers.{LayerTest, first_layer, states_after}
use Rattle.hm_graph_laws.specs.Prices.{Row, price_at, KeepsEdge, KeepsEdges, KeepsLayer, AreZero, FeasibleFrom, has_width, row_over, with_row, followed_by, full_from}
use Rattle.hm_graph_laws.specs.Ways.{Edges, lesser, over, best}
use Rattle.hm_check.specs.Laws.{PriceRulesAgree}
use Rattle.hm_check.specs.Rows.{HighPrice, is_above, high_in, high_at_end, or_else, bounds_of, high_price}

-- ---- A price and its bound

-- a price isn't above the lesser of two bounds exactly where it is above neither
above_lesser : (price a b : Option ℕ) → is_above price (lesser a b) ≡ false → (is_above price a ≡ false) × (is_above price b ≡ false)
above_lesser price None b h = (refl, h)
above_lesser price (Some a) None h = (h, refl)
above_lesser None (Some a) (Some b) h = absurd (cc)
above_lesser (Some p) (Some a) (Some b) h =
    let le : p ≤ min a b = ltb-false (min a b) p h in
    (le-ltb a p (omega (arith, le)), le-ltb b p (omega (arith, le)))

lesser_above : (price a b : Option ℕ) → is_above price a ≡ false → is_above price b ≡ false → is_above price (lesser a b) ≡ false
lesser_above price None b ha hb = hb
lesser_above price (Some a) None ha hb = ha
lesser_above None (Some a) (Some b) ha hb = absurd (cc)
lesser_above (Some p) (Some a) (Some b) ha hb =
    let la : p ≤ a = ltb-false a p ha in
    let lb : p ≤ b = ltb-false b p hb in
    le-ltb (min a b) p (omega (arith, la, lb))

above_over : (price : Option ℕ) (n : ℕ) (after : Option ℕ) → is_above price (over n after) ≡ false → KeepsEdge price n after
above_over price n None h = tt
above_over None n (Some b) h = absurd (cc)
above_over (Some a) n (Some b) h = ltb-false (n + b) a h

over_above : (price : Option ℕ) (n : ℕ) (after : Option ℕ) → KeepsEdge price n after → is_above price (over n after) ≡ false
over_above price n None h = refl
over_above None n (Some b) h = absurd h
over_above (Some a) n (Some b) h = le-ltb (n + b) a h

above_best : (price : Option ℕ) (f : State → Option ℕ) (es : List Edge) → is_above price (best f es) ≡ false → KeepsEdges price f es
above_best price f [] h = tt
above_best price f (e ∷ es) h =
    let two = above_lesser price (over (edge_length e) (f e.to)) (best f es) h in
    (above_over price (edge_length e) (f e.to) two.0, above_best price f es two.1)

best_above : (price : Option ℕ) (f : State → Option ℕ) (es : List Edge) → KeepsEdges price f es → is_above price (best f es) ≡ false
best_above price f [] k = refl
best_above price f (e ∷ es) k = lesser_above price (over (edge_length e) (f e.to)) (best f es) (over_above price (edge_length e) (f e.to) k.0) (best_above price f es k.1)

-- ---- A layer

not_found : (b : Bool) (h : HighPrice) (more : Option HighPrice) → cond b (Some h) more ≡ None → (b ≡ false) × (more ≡ None)
not_found true h more e = absurd (cc)
not_found false h more e = (refl, e)

high_keeps : (edges : Edges) (unit : Unit) (f : State → Option ℕ) (k i : ℕ) (states : List State) (row : Row) → length row ≡ length states
    → high_in k i row (map (λ s. best f (edges unit s)) states) ≡ None → KeepsLayer edges unit f states row
high_keeps edges unit f k i [] [] w h = tt
high_keeps edges unit f k i [] (price ∷ row) w h = absurd (omega (arith, w))
high_keeps edges unit f k i (s ∷ states) [] w h = absurd (omega (arith, w))
high_keeps edges unit f k i (s ∷ states) (price ∷ row) w h =
    let bounds : Row = map (λ s. best f (edges unit s)) states in
    let two = not_found (is_above price (best f (edges unit s))) (record { layer = k; state = i; price = price; bound = best f (edges unit s) }) (high_in k (suc i) row bounds) h in
    (above_best price f (edges unit s) two.0, high_keeps edges unit f k (suc i) states row (omega (arith, w)) two.1)

keeps_high : (edges : Edges) (unit : Unit) (f : State → Option ℕ) (k i : ℕ) (states : List State) (row : Row) → KeepsLayer edges unit f states row
    → high_in k i row (map (λ s. best f (edges unit s)) states) ≡ None
keeps_high edges unit f k i [] [] h = refl
keeps_high edges unit f k i [] (price ∷ row) h = absurd h
keeps_high edges unit f k i (s ∷ states) [] h = absurd h
keeps_high edges unit f k i (s ∷ states) (price ∷ row) h = rw (best_above price f (edges unit s) h.0) (keeps_high edges unit f k (suc i) states row h.1)

-- the last layer
end_zero : (k i : ℕ) (states : List State) (row : Row) → length row ≡ length states → high_at_end k i row ≡ None → AreZero states row
end_zero k i [] [] w h = tt
end_zero k i [] (price ∷ row) w h = absurd (omega (arith, w))
end_zero k i (s ∷ states) [] w h = absurd (omega (arith, w))
end_zero k i (s ∷ states) (None ∷ row) w h = absurd (cc)
end_zero k i (s ∷ states) (Some n ∷ row) w h =
    let two = not_found_zero (n == 0) (record { layer = k; state = i; price = Some n; bound = Some 0 }) (high_at_end k (suc i) row) h in
    (ap Some (eqb-true n 0 two.0), end_zero k (suc i) states row (omega (arith, w)) two.1)
  where
    not_found_zero : (b : Bool) (h : HighPrice) (more : Option HighPrice) → cond b more (Some h) ≡ None → (b ≡ true) × (more ≡ None)
    not_found_zero true h more e = (refl, e)
    not_found_zero false h more e = absurd (cc)

zero_end : (k i : ℕ) (states : List State) (row : Row) → AreZero states row → high_at_end k i row ≡ None
zero_end k i [] [] z = refl
zero_end k i [] (price ∷ row) z = absurd z
zero_end k i (s ∷ states) [] z = absurd z
zero_end k i (s ∷ states) (price ∷ row) z = subst (λ p. high_at_end k i (p ∷ row) ≡ None) (sym z.0) (zero_end k (suc i) states row z.1)

-- ---- All layers

-- a row for each layer, as wide as it
abbrev pub AreWide : Edges → List Unit → List State → List Row → Type 0
AreWide edges units states [] = ⊥
AreWide edges [] states (row ∷ []) = length row ≡ length states
AreWide edges [] states (row ∷ next ∷ rows) = ⊥
AreWide edges (unit ∷ units) states (row ∷ []) = ⊥
AreWide edges (unit ∷ units) states (row ∷ next ∷ rows) = (length row ≡ length states) × AreWide edges units (states_after edges unit states) (next ∷ rows)

wide_more : (edges : Edges) (unit : Unit) (units : List Unit) (states : List State) (row : Row) (rows : List Row) → length row ≡ length states → AreWide edges units (states_after edges unit states) rows → AreWide edges (unit ∷ units) states (row ∷ rows)
wide_more edges unit units states row [] w h = absurd h
wide_more edges unit units states row (next ∷ rows) w h = (w, h)

-- what written rows stand for is a row for each layer
pub full_wide : (edges : Edges) (follows : LayerTest) (k : ℕ) (units : List Unit) (states : List State) (rows prices : List Row) → full_from edges follows k units states rows ≡ Some prices → AreWide edges units states prices
full_wide edges follows k [] states [] prices h = absurd (cc)
full_wide edges follows k [] states (row ∷ []) prices h = by_test (has_width states row) refl h
  where
    by_test : (b : Bool) → has_width states row ≡ b → cond b (Some (row ∷ [])) None ≡ Some prices → AreWide edges [] states prices
    by_test true w e = let is : row ∷ [] ≡ prices = cc in subst (AreWide edges [] states) is (eqb-true (length row) (length states) w)
    by_test false w e = absurd (cc)
full_wide edges follows k [] states (row ∷ more ∷ rows) prices h = absurd (cc)
full_wide edges follows k (unit ∷ units) states [] prices h = absurd (cc)
full_wide edges follows k (unit ∷ units) states (row ∷ rows) prices h =
    by_test (not (k == 0) && follows unit states)
    (λ p e. full_wide edges follows (suc k) units (states_after edges unit states) (row ∷ rows) p e)
    (λ p e. full_wide edges follows (suc k) units (states_after edges unit states) rows p e) h
  where
    after : List State
    after = states_after edges unit states

    Leads : List Row → Type 0
    Leads left = (p : List Row) → full_from edges follows (suc k) units after left ≡ Some p → AreWide edges units after p

    by_followed : (p : Option (List Row)) → full_from edges follows (suc k) units after (row ∷ rows) ≡ p → Leads (row ∷ rows) → followed_by edges unit states p ≡ Some prices → AreWide edges (unit ∷ units) states prices
    by_followed None is leads e = absurd (cc)
    by_followed (Some []) is leads e = absurd (cc)
    by_followed (Some (next ∷ more)) is leads e =
        let here : Row = row_over edges unit states (price_at after next) in
        let same : here ∷ next ∷ more ≡ prices = cc in
        subst (AreWide edges (unit ∷ units) states) same (wide_more edges unit units states here (next ∷ more) (length-map states (λ s. best (price_at after next) (edges unit s))) (leads (next ∷ more) is))

    by_row : (p : Option (List Row)) → full_from edges follows (suc k) units after rows ≡ p → Leads rows → length row ≡ length states → with_row row p ≡ Some prices → AreWide edges (unit ∷ units) states prices
    by_row None is leads w e = absurd (cc)
    by_row (Some more) is leads w e =
        let same : row ∷ more ≡ prices = cc in
        subst (AreWide edges (unit ∷ units) states) same (wide_more edges unit units states row more w (leads more is))

    by_width : (b : Bool) → has_width states row ≡ b → Leads rows → cond b (with_row row (full_from edges follows (suc k) units after rows)) None ≡ Some prices → AreWide edges (unit ∷ units) states prices
    by_width true w leads e = by_row (full_from edges follows (suc k) units after rows) refl leads (eqb-true (length row) (length states) w) e
    by_width false w leads e = absurd (cc)

    by_test : (b : Bool) → Leads (row ∷ rows) → Leads rows
        → cond b (followed_by edges unit states (full_from edges follows (suc k) units after (row ∷ rows))) (cond (has_width states row) (with_row row (full_from edges follows (suc k) units after rows)) None) ≡ Some prices
        → AreWide edges (unit ∷ units) states prices
    by_test true out further e = by_followed (full_from edges follows (suc k) units after (row ∷ rows)) refl out e
    by_test false out further e = by_width (has_width states row) refl further e

none_of_two : (a b : Option HighPrice) → or_else a b ≡ None → (a ≡ None) × (b ≡ None)
none_of_two None b e = (refl, e)
none_of_two (Some a) b e = absurd (cc)

-- rows of which no price is above its bound keep the rules
pub high_feasible : (edges : Edges) (k : ℕ) (units : List Unit) (states : List State) (prices : List Row) → AreWide edges units states prices → high_price edges k units states prices ≡ None → FeasibleFrom edges units states prices
high_feasible edges k units states [] w h = absurd w
high_feasible edges k [] states (row ∷ []) w h = end_zero k 0 states row w h
high_feasible edges k [] states (row ∷ next ∷ rows) w h = absurd w
high_feasible edges k (unit ∷ units) states (row ∷ []) w h = absurd w
high_feasible edges k (unit ∷ units) states (row ∷ next ∷ rows) w h =
    let after : List State = states_after edges unit states in
    let two = none_of_two (high_in k 0 row (bounds_of edges unit states next)) (high_price edges (suc k) units after (next ∷ rows)) h in
    (high_keeps edges unit (price_at after next) k 0 states row w.0 two.0, high_feasible edges (suc k) units after (next ∷ rows) w.1 two.1)

-- rows that keep the rules have no price above its bound
pub feasible_high : (edges : Edges) (k : ℕ) (units : List Unit) (states : List State) (prices : List Row) → FeasibleFrom edges units states prices → high_price edges k units states prices ≡ None
feasible_high edges k units states [] f = absurd f
feasible_high edges k [] states (row ∷ []) f = zero_end k 0 states row f
feasible_high edges k [] states (row ∷ next ∷ rows) f = absurd f
feasible_high edges k (unit ∷ units) states (row ∷ []) f = absurd f
feasible_high edges k (unit ∷ units) states (row ∷ next ∷ rows) f =
    let after : List State = states_after edges unit states in
    rw (keeps_high edges unit (price_at after next) k 0 states row f.0) (feasible_high edges (suc k) units after (next ∷ rows) f.1)

-- so both rules of prices are one, for the rows that written ones stand for
pub price_rules_agree : PriceRulesAgree
price_rules_agree edges follows units rows prices is =
    (high_feasible edges 0 units first_layer prices (full_wide edges follows 0 units first_layer rows prices is), feasible_high edges 0 units first_layer prices)
