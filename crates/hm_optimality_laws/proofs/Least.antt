-- Without the edges that are dominated (outdone) the least prices and the first way are the same.
use Rattle.std.proofs.Common.{◌≡◌, ◌≤◌, ◌+◌, ℕ, suc, Bool, true, false, cond, ◌||◌, List, [], ◌∷◌, ◌++◌, length, Option, Some, None, refl, sym, ap, ◌∙◌, subst, arith}
use Rattle.std.specs.List.{list_any}
use Rattle.std.proofs.lemmas.Bool.{eqb-true}
use Rattle.hm_refs.specs.Tables.{IsIn, first, later}
use Rattle.hm_graph_laws.proofs.LeastPrices.{IsFirst, first_bounds, first_of_best, least_number, least_reached, over_is, same_price_self}
use Rattle.hm_graph_laws.specs.Ways.{Edges, lesser, over, best, least, same_price, first_edge, along, first_way}
use Rattle.hm_optimality_laws.specs.SparseLaws.{HasWayInstead, HaveValues, IsFollowed, LosesNothing, DominatedEdgesAreNeedless, PricesBound, Replaces, SameFirstWay, SameLeast}
use Rattle.hm_optimality_laws.specs.Dominated.{Dominance, is_dominated, kept_after, kept_edges, sparse}
use Rattle.hm_graph_laws.specs.Edges.{Edge, edge_length}
use Rattle.hm_graph_laws.specs.States.{State, first_state}
use Rattle.hm_graph_laws.specs.Units.{Unit}

-- ---- Prices of at least a number

-- the price is closed, or a number of at least n
abbrev pub AtLeast : ℕ → Option ℕ → Type 0
AtLeast n None = Prim.Unit {0}
AtLeast n (Some m) = n ≤ m

lesser_parts : (n : ℕ) (p q : Option ℕ) → AtLeast n (lesser p q) → AtLeast n p × AtLeast n q
lesser_parts n None q h = (tt, h)
lesser_parts n (Some a) None h = (h, tt)
lesser_parts n (Some a) (Some b) h = (omega arith, omega arith)

of_parts : (n : ℕ) (p q : Option ℕ) → AtLeast n p → AtLeast n q → AtLeast n (lesser p q)
of_parts n None q h k = k
of_parts n (Some a) None h k = h
of_parts n (Some a) (Some b) h k = omega arith

is_closed : (p : Option ℕ) → ((n : ℕ) → AtLeast n p) → p ≡ None
is_closed None h = refl
is_closed (Some m) h = absurd (let k : suc m ≤ m = h (suc m) in omega arith)

closed_at_least : (n : ℕ) (p : Option ℕ) → p ≡ None → AtLeast n p
closed_at_least n None e = tt
closed_at_least n (Some m) e = absurd (cc)

number_at_least : (n : ℕ) (p : Option ℕ) → p ≡ Some n → AtLeast n p
number_at_least n p e = subst (AtLeast n) (sym e) (omega arith)

-- the lesser of a number and a price that is at least that number
lesser_first : (n : ℕ) (p q : Option ℕ) → p ≡ Some n → AtLeast n q → lesser p q ≡ Some n
lesser_first n p None e h = rw e refl
lesser_first n p (Some m) e h = rw e (ap Some (omega arith))

lesser_second : (n : ℕ) (p q : Option ℕ) → AtLeast (suc n) p → q ≡ Some n → lesser p q ≡ Some n
lesser_second n None q h e = e
lesser_second n (Some m) q h e = rw e (ap Some (omega arith))

-- where the first price isn't the number, it is greater and the second price is the number
greater : (n : ℕ) (p q : Option ℕ) → same_price p (Some n) ≡ false → lesser p q ≡ Some n → AtLeast (suc n) p × (q ≡ Some n)
greater n None q d e = (tt, e)
greater n (Some a) None d e = absurd (let k : same_price (Some a) (Some n) ≡ true = subst (λ p. same_price p (Some n) ≡ true) (sym e) (same_price_self (Some n)) in cc)
greater n (Some a) (Some b) d e = grind arith

-- ---- What dominates

-- the price over an edge
abbrev pub price : (State → Option ℕ) → Edge → Option ℕ
price f e = over (edge_length e) (f e.to)

-- The price over an edge that dominates another is no greater where it stands before it, and less where it stands after it.
pub record Favours (d : Dominance) (unit : Unit) (f : State → Option ℕ) : Type 0 where
  pub in_front : (e x : Edge) → d.in_front unit e x ≡ true → (n : ℕ) → AtLeast n (price f x) → AtLeast n (price f e)
  pub after : (e x : Edge) → d.after unit e x ≡ true → (n : ℕ) → AtLeast n (price f x) → AtLeast (suc n) (price f e)

price_in : (f : State → Option ℕ) (n : ℕ) (e : Edge) (es : List Edge) → AtLeast n (best f es) → IsIn e es → AtLeast n (price f e)
price_in f n e es h (first zs) = (lesser_parts n (price f e) (best f zs) h).0
price_in f n e es h (later y zs i) = price_in f n e zs (lesser_parts n (price f y) (best f zs) h).1 i

none_passes : (p : Edge → Bool) (es : List Edge) → ((e : Edge) → IsIn e es → p e ≡ true → ⊥) → list_any p es ≡ false
none_passes p [] h = refl
none_passes p (e ∷ es) h = by_test (p e) refl (none_passes p es (λ x i. h x (later e es i)))
  where
    by_test : (b : Bool) → p e ≡ b → list_any p es ≡ false → (b || list_any p es) ≡ false
    by_test true k more = absurd (h e (first es) k)
    by_test false k more = more

same_price_is : (p q : Option ℕ) → same_price p q ≡ true → p ≡ q
same_price_is None None e = refl
same_price_is None (Some b) e = absurd (cc)
same_price_is (Some a) None e = absurd (cc)
same_price_is (Some a) (Some b) e = ap Some (eqb-true a b e)

-- an edge over which the least price comes isn't dominated by an earlier one, where all earlier ones have greater prices
not_in_front : (d : Dominance) (unit : Unit) (f : State → Option ℕ) → Favours d unit f → (n : ℕ) (e : Edge) (before : List Edge) → price f e ≡ Some n → ((x : Edge) → IsIn x before → AtLeast (suc n) (price f x))
    → list_any (d.in_front unit e) before ≡ false
not_in_front d unit f favours n e before is more = none_passes (d.in_front unit e) before (λ x i h. fails (favours.in_front e x h (suc n) (more x i)))
  where
    fails : AtLeast (suc n) (price f e) → ⊥
    fails k = let z : AtLeast (suc n) (Some n) = subst (AtLeast (suc n)) is k in omega (arith, z)

-- nor by a later one
not_after : (d : Dominance) (unit : Unit) (f : State → Option ℕ) → Favours d unit f → (n : ℕ) (e : Edge) (es : List Edge) → price f e ≡ Some n → AtLeast n (best f es) → list_any (d.after unit e) es ≡ false
not_after d unit f favours n e es is least = none_passes (d.after unit e) es (λ x i h. fails (favours.after e x h n (price_in f n x es least i)))
  where
    fails : AtLeast (suc n) (price f e) → ⊥
    fails k = let z : AtLeast (suc n) (Some n) = subst (AtLeast (suc n)) is k in omega (arith, z)

-- ---- The edges that are kept

kept_at_least : (d : Dominance) (unit : Unit) (f : State → Option ℕ) (n : ℕ) (before es : List Edge) → AtLeast n (best f es) → AtLeast n (best f (kept_after d unit before es))
kept_at_least d unit f n before [] h = h
kept_at_least d unit f n before (e ∷ es) h = by_test (is_dominated d unit before e es) (kept_at_least d unit f n (e ∷ before) es (lesser_parts n (price f e) (best f es) h).1)
  where
    by_test : (b : Bool) → AtLeast n (best f (kept_after d unit (e ∷ before) es)) → AtLeast n (best f (cond b (kept_after d unit (e ∷ before) es) (e ∷ kept_after d unit (e ∷ before) es)))
    by_test true k = k
    by_test false k = of_parts n (price f e) (best f (kept_after d unit (e ∷ before) es)) (lesser_parts n (price f e) (best f es) h).0 k

-- the least price is the same, and comes over the same first edge
record SameChoice (f : State → Option ℕ) (n : ℕ) (kept es : List Edge) : Type 0 where
  pub least : best f kept ≡ Some n
  pub edge : first_edge f (Some n) kept ≡ first_edge f (Some n) es

-- the first edge over which the least price comes is kept
here : (d : Dominance) (unit : Unit) (f : State → Option ℕ) → Favours d unit f → (n : ℕ) (e : Edge) (before es : List Edge) → price f e ≡ Some n → AtLeast n (best f es) → ((x : Edge) → IsIn x before → AtLeast (suc n) (price f x))
    → SameChoice f n (kept_after d unit before (e ∷ es)) (e ∷ es)
here d unit f favours n e before es is least more =
    let kept : kept_after d unit before (e ∷ es) ≡ e ∷ kept_after d unit (e ∷ before) es = rw (not_in_front d unit f favours n e before is more, not_after d unit f favours n e es is least) refl in
    let same : same_price (price f e) (Some n) ≡ true = rw is (same_price_self (Some n)) in
    subst (λ ks. SameChoice f n ks (e ∷ es)) (sym kept)
    (record { least = lesser_first n (price f e) (best f (kept_after d unit (e ∷ before) es)) is (kept_at_least d unit f n (e ∷ before) es least); edge = rw same refl })

-- where it isn't the first edge, the choice is made among the later ones
after : (f : State → Option ℕ) (n : ℕ) (e : Edge) (b : Bool) (kept es : List Edge) → same_price (price f e) (Some n) ≡ false → AtLeast (suc n) (price f e) → SameChoice f n kept es → SameChoice f n (cond b kept (e ∷ kept)) (e ∷ es)
after f n e true kept es differs more c = record { least = c.least; edge = rw differs c.edge }
after f n e false kept es differs more c = record { least = lesser_second n (price f e) (best f kept) more c.least; edge = rw differs c.edge }

kept_choice : (d : Dominance) (unit : Unit) (f : State → Option ℕ) → Favours d unit f → (n : ℕ) (before es : List Edge) → best f es ≡ Some n → ((x : Edge) → IsIn x before → AtLeast (suc n) (price f x))
    → SameChoice f n (kept_after d unit before es) es
kept_choice d unit f favours n before [] h more = absurd (cc)
kept_choice d unit f favours n before (e ∷ es) h more = by_test (same_price (price f e) (Some n)) refl (λ k m. kept_choice d unit f favours n (e ∷ before) es k m)
  where
    with_first : AtLeast (suc n) (price f e) → (x : Edge) → IsIn x (e ∷ before) → AtLeast (suc n) (price f x)
    with_first k x (first zs) = k
    with_first k x (later y zs i) = more x i

    by_test : (b : Bool) → same_price (price f e) (Some n) ≡ b
        → (best f es ≡ Some n → ((x : Edge) → IsIn x (e ∷ before) → AtLeast (suc n) (price f x)) → SameChoice f n (kept_after d unit (e ∷ before) es) es)
        → SameChoice f n (kept_after d unit before (e ∷ es)) (e ∷ es)
    by_test true is later_ones = here d unit f favours n e before es (same_price_is (price f e) (Some n) is) (lesser_parts n (price f e) (best f es) (number_at_least n (best f (e ∷ es)) h)).1 more
    by_test false differs later_ones =
        let g = greater n (price f e) (best f es) differs h in
        after f n e (is_dominated d unit before e es) (kept_after d unit (e ∷ before) es) es differs g.0 (later_ones g.1 (with_first g.0))

edges_choice : (d : Dominance) (unit : Unit) (f : State → Option ℕ) → Favours d unit f → (n : ℕ) (es : List Edge) → best f es ≡ Some n → SameChoice f n (kept_edges d unit es) es
edges_choice d unit f favours n es h = kept_choice d unit f favours n [] es h (λ x i. elim i [ ])

same_best : (d : Dominance) (unit : Unit) (f : State → Option ℕ) → Favours d unit f → (es : List Edge) → best f (kept_edges d unit es) ≡ best f es
same_best d unit f favours es = by_price (best f es) refl
  where
    by_price : (p : Option ℕ) → best f es ≡ p → best f (kept_edges d unit es) ≡ p
    by_price None e = is_closed (best f (kept_edges d unit es)) (λ n. kept_at_least d unit f n [] es (closed_at_least n (best f es) e))
    by_price (Some n) e = (edges_choice d unit f favours n es e).least

-- ---- Over all units

-- what replaces an edge has no greater price, by so much less
no_greater : (es : Edges) (units : List Unit) (fewer : ℕ) (e x : Edge) → Replaces es units fewer e x → (m n : ℕ) → m ≤ fewer + n → AtLeast n (price (least es units) x) → AtLeast m (price (least es units) e)
no_greater es units fewer e x replaces m n l h = by_price (least es units e.to) refl
  where
    of_way : (q : ℕ) → HasWayInstead es units fewer e x (first_way es units e.to) → length (first_way es units e.to) ≡ q → m ≤ edge_length e + q
    of_way q w long =
        let (p, is, short) = least_number es units x.to w.bytes w.way in
        let z : n ≤ edge_length x + p = subst (λ y. AtLeast n (over (edge_length x) y)) is h in
        let k = w.short in
        omega (arith, l, z, short, k, long)

    by_price : (p : Option ℕ) → least es units e.to ≡ p → AtLeast m (over (edge_length e) p)
    by_price None is = tt
    by_price (Some q) is =
        let (way, long) = least_reached es units e.to q is in
        of_way q (replaces (first_way es units e.to) way) long

module _ (d : Dominance) (es : Edges) (loses : LosesNothing d es) where
  favours_least : (unit : Unit) (units : List Unit) → IsFollowed unit units → Favours d unit (least es units)
  favours_least unit units follows = record {
    in_front = λ e x h n k. no_greater es units 0 e x ((loses unit units follows e x).0 h) n n (omega arith) k;
    after = λ e x h n k. no_greater es units 1 e x ((loses unit units follows e x).1 h) (suc n) n (omega arith) k;
  }

  same_least : SameLeast d es
  same_least [] have s = refl
  same_least (unit ∷ units) have s = (λ i. best (λ t. same_least units have.1 t i) (kept_edges d unit (es unit s))) ∙ same_best d unit (least es units) (favours_least unit units have.0) (es unit s)

  -- the first edge is the same
  same_edge : (unit : Unit) (units : List Unit) → HaveValues (unit ∷ units) → (s : State) (n : ℕ) → least es (unit ∷ units) s ≡ Some n
      → first_edge (least (sparse d es) units) (least (sparse d es) (unit ∷ units) s) (sparse d es unit s) ≡ first_edge (least es units) (least es (unit ∷ units) s) (es unit s)
  same_edge unit units have s n e =
      (λ i. first_edge (λ t. same_least units have.1 t i) (same_least (unit ∷ units) have s i) (kept_edges d unit (es unit s)))
      ∙ (λ i. first_edge (least es units) (e i) (kept_edges d unit (es unit s)))
      ∙ (edges_choice d unit (least es units) (favours_least unit units have.0) n (es unit s) e).edge
      ∙ (λ i. first_edge (least es units) (sym e i) (es unit s))

  same_first_way : SameFirstWay d es
  same_first_way [] have s n e = refl
  same_first_way (unit ∷ units) have s n e =
      (λ i. along (same_edge unit units have s n e i) (first_way (sparse d es) units)) ∙ from_first (first_of_best (least es units) n (es unit s) e) (λ t m k. same_first_way units have.1 t m k)
    where
      from_first : (x : Edge) × IsFirst (least es units) n (es unit s) x → ((t : State) (m : ℕ) → least es units t ≡ Some m → first_way (sparse d es) units t ≡ first_way es units t)
          → along (first_edge (least es units) (least es (unit ∷ units) s) (es unit s)) (first_way (sparse d es) units) ≡ along (first_edge (least es units) (least es (unit ∷ units) s) (es unit s)) (first_way es units)
      from_first (x, f) more =
          let found : first_edge (least es units) (least es (unit ∷ units) s) (es unit s) ≡ Some x = ap (λ q. first_edge (least es units) q (es unit s)) e ∙ f.found in
          let (m, is, sum) = over_is (edge_length x) n (least es units x.to) f.reaches.price in
          ap (λ y. along y (first_way (sparse d es) units)) found ∙ ap (λ b. x.bytes ++ b) (more x.to m is) ∙ ap (λ y. along y (first_way es units)) (sym found)

  prices_bound : PricesBound d es
  prices_bound units have prices n b feasible is way =
      let (m, price_is, short) = least_number es units first_state b way in
      let (best_way, long) = least_reached (sparse d es) units first_state m (same_least units have first_state ∙ price_is) in
      let bound : n ≤ length (first_way (sparse d es) units first_state) = first_bounds (sparse d es) units prices n (first_way (sparse d es) units first_state) feasible is best_way in
      omega (arith, bound, long, short)

pub needless : DominatedEdgesAreNeedless
needless d es loses = (same_least d es loses, (same_first_way d es loses, prices_bound d es loses))
