-- Least prices bound every way and are reached; prices that keep the rules bound every way.
use Rattle.std.proofs.Common.{◌≡◌, ◌≤◌, ◌<◌, ◌+◌, ◌⊎◌, inl, inr, ℕ, Bool, List, [], ◌∷◌, ◌++◌, length, map, min, Option, Some, None, true, false, cond, refl, sym, ap, ◌∙◌, subst, arith, length-append}
use Rattle.std.proofs.Math.Nat.{eq-or-lt_of_le, min-le_left}
use Rattle.std.proofs.lemmas.Bool.{eq-eqb, eqb-true}
use Rattle.hm_refs.specs.Tables.{IsIn, first, later}
use Rattle.hm_graph_laws.specs.Edges.{Edge, edge_length}
use Rattle.hm_graph_laws.specs.States.{State, first_state, same_state}
use Rattle.hm_graph_laws.specs.Units.{Unit}
use Rattle.hm_graph_laws.specs.Ways.{Edges, Way, lesser, over, best, least, same_price, first_edge, along, first_way}
use Rattle.hm_graph_laws.specs.Layers.{states_after, first_layer}
use Rattle.hm_graph_laws.specs.Prices.{price_at, least_prices, KeepsEdge, KeepsEdges, KeepsLayer, AreZero, FeasibleFrom, first_price}
use Rattle.hm_graph_laws.proofs.LayerStates.{end_after, not_first, price_at-map}
use Rattle.hm_graph_laws.proofs.States.{same_is, same_self}

-- a price is a number of at most n
abbrev pub AtMost : Option ℕ → ℕ → Type 0
AtMost None n = ⊥
AtMost (Some a) n = a ≤ n

lesser_left : (p q : Option ℕ) (n : ℕ) → AtMost p n → AtMost (lesser p q) n
lesser_left None q n h = absurd h
lesser_left (Some a) None n h = h
lesser_left (Some a) (Some b) n h = omega arith

lesser_right : (p q : Option ℕ) (n : ℕ) → AtMost q n → AtMost (lesser p q) n
lesser_right None q n h = h
lesser_right (Some a) None n h = absurd h
lesser_right (Some a) (Some b) n h = omega arith

over_at_most : (p : Option ℕ) (len n : ℕ) → AtMost p n → AtMost (over len p) (len + n)
over_at_most None len n h = absurd h
over_at_most (Some a) len n h = omega arith

pub best_at_most : (e : Edge) (after : State → Option ℕ) (es : List Edge) (n : ℕ) → IsIn e es → AtMost (after e.to) n → AtMost (best after es) (edge_length e + n)
best_at_most e after es n (first zs) h = lesser_left (over (edge_length e) (after e.to)) (best after zs) (edge_length e + n) (over_at_most (after e.to) (edge_length e) n h)
best_at_most e after es n (later y zs i) h = lesser_right (over (edge_length y) (after y.to)) (best after zs) (edge_length e + n) (best_at_most e after zs n i h)

along_length : (p rest b : List ℕ) → b ≡ p ++ rest → length b ≡ length p + length rest
along_length p rest b e = rw e (length-append p rest)

-- no way is shorter than the least price
pub least_bounds : (edges : Edges) (units : List Unit) (s : State) (b : List ℕ) → Way edges units s b → AtMost (least edges units s) (length b)
least_bounds edges [] s b w = omega arith
least_bounds edges (unit ∷ units) s b (e, i, (rest, is, w)) =
    subst (AtMost (best (least edges units) (edges unit s))) (sym (along_length (e.bytes) rest b is))
    (best_at_most e (least edges units) (edges unit s) (length rest) i (least_bounds edges units e.to rest w))

-- the price comes over this edge
pub record Reaches (after : State → Option ℕ) (n : ℕ) (es : List Edge) (e : Edge) : Type 0 where
  pub among : IsIn e es
  pub price : over (edge_length e) (after e.to) ≡ Some n

lesser_cases : (p q : Option ℕ) (n : ℕ) → lesser p q ≡ Some n → (p ≡ Some n) ⊎ (q ≡ Some n)
lesser_cases None q n e = inr e
lesser_cases (Some a) None n e = inl e
lesser_cases (Some a) (Some b) n e = min_cases (eq-or-lt_of_le (min-le_left a b))
  where
    min_cases : (min a b ≡ a) ⊎ (min a b < a) → (Some a ≡ Some n) ⊎ (Some b ≡ Some n)
    min_cases (inl h) = inl (cc)
    min_cases (inr h) = inr (let k : min a b ≡ b = omega arith in cc)

reaches_later : (after : State → Option ℕ) (n : ℕ) (y : Edge) (es : List Edge) → (e : Edge) × Reaches after n es e → (e : Edge) × Reaches after n (y ∷ es) e
reaches_later after n y es (e, r) = (e, record { among = later y es r.among; price = r.price })

some_reaches : (after : State → Option ℕ) (n : ℕ) (es : List Edge) → best after es ≡ Some n → (e : Edge) × Reaches after n es e
some_reaches after n [] e = absurd (cc)
some_reaches after n (x ∷ es) e = by_cases (lesser_cases (over (edge_length x) (after x.to)) (best after es) n e) (λ h. some_reaches after n es h)
  where
    by_cases : (over (edge_length x) (after x.to) ≡ Some n) ⊎ (best after es ≡ Some n) → (best after es ≡ Some n → (e : Edge) × Reaches after n es e) → (e : Edge) × Reaches after n (x ∷ es) e
    by_cases (inl h) more = (x, record { among = first es; price = h })
    by_cases (inr h) more = reaches_later after n x es (more h)

same_price_is : (p q : Option ℕ) → same_price p q ≡ true → p ≡ q
same_price_is None None e = refl
same_price_is None (Some b) e = cc
same_price_is (Some a) None e = cc
same_price_is (Some a) (Some b) e = ap Some (eqb-true a b e)

pub same_price_self : (p : Option ℕ) → same_price p p ≡ true
same_price_self None = refl
same_price_self (Some a) = eq-eqb a a refl

-- the first edge over which the price comes
pub record IsFirst (after : State → Option ℕ) (n : ℕ) (es : List Edge) (e : Edge) : Type 0 where
  pub found : first_edge after (Some n) es ≡ Some e
  pub reaches : Reaches after n es e

is_first_later : (after : State → Option ℕ) (n : ℕ) (y : Edge) (es : List Edge) → same_price (over (edge_length y) (after y.to)) (Some n) ≡ false → (e : Edge) × IsFirst after n es e → (e : Edge) × IsFirst after n (y ∷ es) e
is_first_later after n y es differs (e, f) = (e, record { found = rw differs f.found; reaches = record { among = later y es f.reaches.among; price = f.reaches.price } })

-- where it isn't the first edge, it is among the later ones
not_here : (x : Edge) (after : State → Option ℕ) (n : ℕ) (y : Edge) (es : List Edge) → same_price (over (edge_length y) (after y.to)) (Some n) ≡ false → over (edge_length x) (after x.to) ≡ Some n → IsIn x (y ∷ es) → IsIn x es
not_here x after n y es differs e (first zs) = absurd (let k : same_price (over (edge_length x) (after x.to)) (Some n) ≡ true = rw e (same_price_self (Some n)) in cc)
not_here x after n y es differs e (later z zs i) = i

has_first : (x : Edge) (after : State → Option ℕ) (n : ℕ) (es : List Edge) → Reaches after n es x → (e : Edge) × IsFirst after n es e
has_first x after n [] r = elim r.among [ ]
has_first x after n (y ∷ es) r = by_test (same_price (over (edge_length y) (after y.to)) (Some n)) refl (λ q. has_first x after n es q)
  where
    by_test : (b : Bool) → same_price (over (edge_length y) (after y.to)) (Some n) ≡ b → (Reaches after n es x → (e : Edge) × IsFirst after n es e) → (e : Edge) × IsFirst after n (y ∷ es) e
    by_test true e more = (y, record { found = rw e refl; reaches = record { among = first es; price = same_price_is (over (edge_length y) (after y.to)) (Some n) e } })
    by_test false e more = is_first_later after n y es e (more (record { among = not_here x after n y es e r.price r.among; price = r.price }))

-- a least price has a first edge over which it comes
pub first_of_best : (after : State → Option ℕ) (n : ℕ) (es : List Edge) → best after es ≡ Some n → (e : Edge) × IsFirst after n es e
first_of_best after n es h = from_one (some_reaches after n es h)
  where
    from_one : (e : Edge) × Reaches after n es e → (e : Edge) × IsFirst after n es e
    from_one (x, r) = has_first x after n es r

pub over_is : (len n : ℕ) (p : Option ℕ) → over len p ≡ Some n → (m : ℕ) × (p ≡ Some m) × (n ≡ len + m)
over_is len n None e = absurd (cc)
over_is len n (Some m) e = (m, refl, cc)

-- the first way of a least price is a way of that length
pub record IsLeastWay (edges : Edges) (units : List Unit) (s : State) (n : ℕ) : Type 0 where
  pub way : Way edges units s (first_way edges units s)
  pub len : length (first_way edges units s) ≡ n

first_step : (edges : Edges) (unit : Unit) (units : List Unit) (s : State) (n : ℕ) (e : Edge) → least edges (unit ∷ units) s ≡ Some n → first_edge (least edges units) (Some n) (edges unit s) ≡ Some e → first_way edges (unit ∷ units) s ≡ e.bytes ++ first_way edges units e.to
first_step edges unit units s n e h f = ap (λ q. along (first_edge (least edges units) q (edges unit s)) (first_way edges units)) h ∙ ap (λ x. along x (first_way edges units)) f

pub least_way : (edges : Edges) (units : List Unit) (s : State) (n : ℕ) → least edges units s ≡ Some n → IsLeastWay edges units s n
least_way edges [] s n h = record { way = refl; len = cc }
least_way edges (unit ∷ units) s n h = from_first (first_of_best (least edges units) n (edges unit s) h) (λ t m k. least_way edges units t m k)
  where
    from_first : (e : Edge) × IsFirst (least edges units) n (edges unit s) e → ((t : State) (m : ℕ) → least edges units t ≡ Some m → IsLeastWay edges units t m) → IsLeastWay edges (unit ∷ units) s n
    from_first (e, f) more = with_price (over_is (edge_length e) n (least edges units e.to) f.reaches.price)
      where
        with_price : (m : ℕ) × (least edges units e.to ≡ Some m) × (n ≡ edge_length e + m) → IsLeastWay edges (unit ∷ units) s n
        with_price (m, p, is) =
            let cut : first_way edges (unit ∷ units) s ≡ e.bytes ++ first_way edges units e.to = first_step edges unit units s n e h f.found in
            let w : IsLeastWay edges units e.to m = more e.to m p in
            record {
              way = (e, f.reaches.among, (first_way edges units e.to, cut, w.way));
              len = along_length (e.bytes) (first_way edges units e.to) (first_way edges (unit ∷ units) s) cut ∙ (λ i. edge_length e + w.len i) ∙ sym is;
            }

pub first_least : (edges : Edges) (units : List Unit) → first_price (least_prices edges units first_layer) ≡ least edges units first_state
first_least edges [] = refl
first_least edges (unit ∷ units) = refl

-- Prices that keep the rules

keeps_at : (e : Edge) (price : Option ℕ) (after : State → Option ℕ) (es : List Edge) → KeepsEdges price after es → IsIn e es → KeepsEdge price (edge_length e) (after e.to)
keeps_at e price after es k (first zs) = k.0
keeps_at e price after es k (later y zs i) = keeps_at e price after zs k.1 i

row_keeps : (edges : Edges) (unit : Unit) (after : State → Option ℕ) (states : List State) (row : List (Option ℕ)) (s : State) → KeepsLayer edges unit after states row → IsIn s states → KeepsEdges (price_at states row s) after (edges unit s)
row_keeps edges unit after [] row s k i = elim i [ ]
row_keeps edges unit after (t ∷ states) [] s k i = absurd k
row_keeps edges unit after (t ∷ states) (q ∷ row) s k i =
    elim (same_state t s) as (λ b. same_state t s ≡ b → KeepsEdges (cond b q (price_at states row s)) after (edges unit s)) [
      | true ↦ λ e. subst (λ x. KeepsEdges q after (edges unit x)) (same_is t s e) k.0
      | false ↦ λ e. row_keeps edges unit after states row s k.1 (not_first t s states e i)
    ] refl

zero_at : (states : List State) (row : List (Option ℕ)) (s : State) → AreZero states row → IsIn s states → price_at states row s ≡ Some 0
zero_at [] row s z i = elim i [ ]
zero_at (t ∷ states) [] s z i = absurd z
zero_at (t ∷ states) (q ∷ row) s z i =
    elim (same_state t s) as (λ b. same_state t s ≡ b → cond b q (price_at states row s) ≡ Some 0) [
      | true ↦ λ e. z.0
      | false ↦ λ e. zero_at states row s z.1 (not_first t s states e i)
    ] refl

over_edge : (p q : Option ℕ) (len n : ℕ) → KeepsEdge p len q → AtMost q n → AtMost p (len + n)
over_edge p None len n k h = absurd h
over_edge None (Some b) len n k h = absurd k
over_edge (Some a) (Some b) len n k h = omega arith

-- the price of a state in the first of these layers
front_price : List State → List (List (Option ℕ)) → State → Option ℕ
front_price states [] s = None
front_price states (row ∷ rows) s = price_at states row s

-- prices that keep the rules bound every way
feasible_bounds : (edges : Edges) (units : List Unit) (states : List State) (rows : List (List (Option ℕ))) (s : State) (b : List ℕ) → FeasibleFrom edges units states rows → IsIn s states → Way edges units s b → AtMost (front_price states rows s) (length b)
unfolding front_price
feasible_bounds edges units states [] s b f i w = absurd f
feasible_bounds edges [] states (row ∷ []) s b f i w = subst (λ p. AtMost p (length b)) (sym (zero_at states row s f i)) (omega arith)
feasible_bounds edges [] states (row ∷ next ∷ rows) s b f i w = absurd f
feasible_bounds edges (unit ∷ units) states (row ∷ []) s b f i w = absurd f
feasible_bounds edges (unit ∷ units) states (row ∷ next ∷ rows) s b f i (e, j, (rest, is, w)) =
    let after : State → Option ℕ = price_at (states_after edges unit states) next in
    subst (AtMost (price_at states row s)) (sym (along_length (e.bytes) rest b is))
    (over_edge (price_at states row s) (after e.to) (edge_length e) (length rest) (keeps_at e (price_at states row s) after (edges unit s) (row_keeps edges unit after states row s f.0 i) j)
    (feasible_bounds edges units (states_after edges unit states) (next ∷ rows) e.to rest f.1 (end_after edges s e unit states i j) w))

first_front : (rows : List (List (Option ℕ))) (n : ℕ) → first_price rows ≡ Some n → front_price first_layer rows first_state ≡ Some n
unfolding front_price
first_front [] n e = cc
first_front ([] ∷ rows) n e = cc
first_front ((q ∷ row) ∷ rows) n e = rw (same_self first_state) e

pub first_bounds : (edges : Edges) (units : List Unit) (rows : List (List (Option ℕ))) (n : ℕ) (b : List ℕ) → FeasibleFrom edges units first_layer rows → first_price rows ≡ Some n → Way edges units first_state b → n ≤ length b
first_bounds edges units rows n b f e w = subst (λ p. AtMost p (length b)) (first_front rows n e) (feasible_bounds edges units first_layer rows first_state b f (first []) w)

-- The least prices keep the rules

keeps_lesser : (p q : Option ℕ) (len : ℕ) (b : Option ℕ) → KeepsEdge q len b → KeepsEdge (lesser p q) len b
keeps_lesser p q len None k = tt
keeps_lesser p None len (Some b) k = absurd k
keeps_lesser None (Some a) len (Some b) k = k
keeps_lesser (Some c) (Some a) len (Some b) k = omega arith

keeps_lesser_all : (p q : Option ℕ) (after : State → Option ℕ) (es : List Edge) → KeepsEdges q after es → KeepsEdges (lesser p q) after es
keeps_lesser_all p q after [] k = tt
keeps_lesser_all p q after (e ∷ es) k = (keeps_lesser p q (edge_length e) (after e.to) k.0, keeps_lesser_all p q after es k.1)

keeps_over : (len : ℕ) (b q : Option ℕ) → KeepsEdge (lesser (over len b) q) len b
keeps_over len None q = tt
keeps_over len (Some b) None = omega arith
keeps_over len (Some b) (Some a) = omega arith

keeps_best : (after : State → Option ℕ) (es : List Edge) → KeepsEdges (best after es) after es
keeps_best after [] = tt
keeps_best after (e ∷ es) = (keeps_over (edge_length e) (after e.to) (best after es), keeps_lesser_all (over (edge_length e) (after e.to)) (best after es) after es (keeps_best after es))

keeps_same : (f g : State → Option ℕ) (p : Option ℕ) (es : List Edge) → ((e : Edge) → IsIn e es → f e.to ≡ g e.to) → KeepsEdges p f es → KeepsEdges p g es
keeps_same f g p [] h k = tt
keeps_same f g p (e ∷ es) h k = (subst (KeepsEdge p (edge_length e)) (h e (first es)) k.0, keeps_same f g p es (λ x i. h x (later e es i)) k.1)

keeps_map : (edges : Edges) (unit : Unit) (f after : State → Option ℕ) (states : List State) → ((s : State) → IsIn s states → KeepsEdges (f s) after (edges unit s)) → KeepsLayer edges unit after states (map f states)
keeps_map edges unit f after [] h = tt
keeps_map edges unit f after (s ∷ states) h = (h s (first states), keeps_map edges unit f after states (λ t i. h t (later s states i)))

least_keeps : (edges : Edges) (unit : Unit) (units : List Unit) (states : List State)
    → KeepsLayer edges unit (price_at (states_after edges unit states) (map (least edges units) (states_after edges unit states))) states (map (least edges (unit ∷ units)) states)
least_keeps edges unit units states =
    let after : State → Option ℕ = price_at (states_after edges unit states) (map (least edges units) (states_after edges unit states)) in
    keeps_map edges unit (least edges (unit ∷ units)) after states (λ s i.
    keeps_same (least edges units) after (least edges (unit ∷ units) s) (edges unit s) (λ e j. sym (price_at-map (least edges units) (states_after edges unit states) e.to (end_after edges s e unit states i j)))
    (keeps_best (least edges units) (edges unit s)))

zero_map : (edges : Edges) (states : List State) → AreZero states (map (least edges []) states)
zero_map edges [] = tt
zero_map edges (s ∷ states) = (refl, zero_map edges states)

pub least_feasible : (edges : Edges) (units : List Unit) (states : List State) → FeasibleFrom edges units states (least_prices edges units states)
least_feasible edges [] states = zero_map edges states
least_feasible edges (unit ∷ []) states = (least_keeps edges unit [] states, zero_map edges (states_after edges unit states))
least_feasible edges (unit ∷ next ∷ units) states = (least_keeps edges unit (next ∷ units) states, least_feasible edges (next ∷ units) (states_after edges unit states))

-- ---- As laws

is_number : (p : Option ℕ) (n : ℕ) → AtMost p n → (m : ℕ) × (p ≡ Some m) × (m ≤ n)
is_number None n h = absurd h
is_number (Some m) n h = (m, refl, h)

pub least_number : (edges : Edges) (units : List Unit) (s : State) (b : List ℕ) → Way edges units s b → (n : ℕ) × (least edges units s ≡ Some n) × (n ≤ length b)
least_number edges units s b w = is_number (least edges units s) (length b) (least_bounds edges units s b w)

pub least_reached : (edges : Edges) (units : List Unit) (s : State) (n : ℕ) → least edges units s ≡ Some n → Way edges units s (first_way edges units s) × (length (first_way edges units s) ≡ n)
least_reached edges units s n e = let w = least_way edges units s n e in (w.way, w.len)
