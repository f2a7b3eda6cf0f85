-- States of layers, and prices of states.
use Rattle.std.proofs.Common.{◌≡◌, ℕ, List, [], ◌∷◌, ◌++◌, map, Option, true, false, ◌||◌, cond, refl, ap, subst}
use Rattle.std.specs.List.{list_any}
use Rattle.hm_refs.specs.Tables.{IsIn, first, later}
use Rattle.hm_graph_laws.specs.Edges.{Edge, edge_length}
use Rattle.hm_graph_laws.specs.States.{State, same_state}
use Rattle.hm_graph_laws.specs.Units.{Unit}
use Rattle.hm_graph_laws.specs.Ways.{Edges, best, lesser, over}
use Rattle.hm_graph_laws.specs.Layers.{with_state, with_ends, with_layer, states_after}
use Rattle.hm_graph_laws.specs.Prices.{price_at}
use Rattle.hm_graph_laws.proofs.States.{same_is, same_self}

pub in_after : {A : Type 0} (x : A) (xs ys : List A) → IsIn x ys → IsIn x (xs ++ ys)
in_after x [] ys i = i
in_after x (y ∷ xs) ys i = later y (xs ++ ys) (in_after x xs ys i)

in_front : {A : Type 0} (x : A) (xs ys : List A) → IsIn x xs → IsIn x (xs ++ ys)
in_front x xs ys (first zs) = first (zs ++ ys)
in_front x xs ys (later y zs i) = later y (zs ++ ys) (in_front x zs ys i)

any_in : (states : List State) (s : State) → list_any (λ t. same_state t s) states ≡ true → IsIn s states
any_in [] s e = absurd (cc)
any_in (t ∷ ts) s e =
    elim (same_state t s) as (λ b. same_state t s ≡ b → (b || list_any (λ t. same_state t s) ts) ≡ true → IsIn s (t ∷ ts)) [
      | true ↦ λ is _. subst (λ x. IsIn x (t ∷ ts)) (same_is t s is) (first ts)
      | false ↦ λ is a. later t ts (any_in ts s a)
    ] refl e

-- what is there stays
keeps_state : (states : List State) (s t : State) → IsIn t states → IsIn t (with_state states s)
keeps_state states s t i = elim (list_any (λ x. same_state x s) states) as (λ b. IsIn t (cond b states (states ++ s ∷ []))) [ true ↦ i | false ↦ in_front t states (s ∷ []) i ]

adds_state : (states : List State) (s : State) → IsIn s (with_state states s)
adds_state states s =
    elim (list_any (λ x. same_state x s) states) as (λ b. list_any (λ x. same_state x s) states ≡ b → IsIn s (cond b states (states ++ s ∷ []))) [
      | true ↦ λ e. any_in states s e
      | false ↦ λ e. in_after s states (s ∷ []) (first [])
    ] refl

keeps_ends : (states : List State) (es : List Edge) (t : State) → IsIn t states → IsIn t (with_ends states es)
keeps_ends states [] t i = i
keeps_ends states (e ∷ es) t i = keeps_ends (with_state states e.to) es t (keeps_state states e.to t i)

adds_end : (e : Edge) (states : List State) (es : List Edge) → IsIn e es → IsIn e.to (with_ends states es)
adds_end e states es (first zs) = keeps_ends (with_state states e.to) zs e.to (adds_state states e.to)
adds_end e states es (later y zs i) = adds_end e (with_state states y.to) zs i

keeps_layer : (edges : Edges) (ends : List State) (unit : Unit) (states : List State) (t : State) → IsIn t ends → IsIn t (with_layer edges ends unit states)
keeps_layer edges ends unit [] t i = i
keeps_layer edges ends unit (s ∷ states) t i = keeps_layer edges (with_ends ends (edges unit s)) unit states t (keeps_ends ends (edges unit s) t i)

in_layer : (edges : Edges) (s : State) (e : Edge) (unit : Unit) (ends : List State) (states : List State) → IsIn s states → IsIn e (edges unit s) → IsIn e.to (with_layer edges ends unit states)
in_layer edges s e unit ends states (first zs) i = keeps_layer edges (with_ends ends (edges unit s)) unit zs e.to (adds_end e ends (edges unit s) i)
in_layer edges s e unit ends states (later y zs j) i = in_layer edges s e unit (with_ends ends (edges unit y)) zs j i

-- the end of each edge is in the next layer
pub end_after : (edges : Edges) (s : State) (e : Edge) (unit : Unit) (states : List State) → IsIn s states → IsIn e (edges unit s) → IsIn e.to (states_after edges unit states)
end_after edges s e unit states i j = in_layer edges s e unit [] states i j

pub not_first : (t s : State) (states : List State) → same_state t s ≡ false → IsIn s (t ∷ states) → IsIn s states
not_first t s states e (first zs) = absurd (let k : same_state s s ≡ true = same_self s in cc)
not_first t s states e (later y zs i) = i

-- a row that a function of the states makes gives the values of that function
pub price_at-map : (f : State → Option ℕ) (states : List State) (s : State) → IsIn s states → price_at states (map f states) s ≡ f s
price_at-map f [] s i = elim i [ ]
price_at-map f (t ∷ states) s i =
    elim (same_state t s) as (λ b. same_state t s ≡ b → cond b (f t) (price_at states (map f states) s) ≡ f s) [
      | true ↦ λ e. ap f (same_is t s e)
      | false ↦ λ e. price_at-map f states s (not_first t s states e i)
    ] refl

pub best_same : (f g : State → Option ℕ) (es : List Edge) → ((e : Edge) → IsIn e es → f e.to ≡ g e.to) → best f es ≡ best g es
best_same f g [] h = refl
best_same f g (e ∷ es) h = λ i. lesser (over (edge_length e) (h e (first es) i)) (best_same f g es (λ x j. h x (later e es j)) i)

pub map_same : (f g : State → Option ℕ) (states : List State) → ((s : State) → IsIn s states → f s ≡ g s) → map f states ≡ map g states
map_same f g [] h = refl
map_same f g (s ∷ states) h = λ i. h s (first states) i ∷ map_same f g states (λ t j. h t (later s states j)) i
