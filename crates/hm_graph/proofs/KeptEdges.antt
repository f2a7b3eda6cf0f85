-- The edges that no other one dominates (outdoes), kept one after another.
use Rattle.std.proofs.Common.{◌≡◌, ◌∙◌, ℕ, zero, suc, ◌+◌, ◌-◌, ◌<◌, ◌≤◌, Bool, true, false, ◌&&◌, ◌||◌, List, [], ◌∷◌, ◌++◌, length, get_or, take, drop, reverse, cond, refl, sym, ap, subst, arith, append_assoc, append-nil}
use Rattle.std.proofs.lemmas.List.{length-drop, take_all, drop_more, drop_all, take_more, map-append, reverse-append}
use Rattle.std.proofs.lemmas.List.Sorted.{IsPermutation-reverse, list_any-IsPermutation}
use Rattle.std.specs.List.{list_any}
use Rattle.hm_edges.proofs.LikeStates.{like_states}
use Rattle.hm_edges.specs.Pieces.{AreOfTable, IsOfTable, edge_of, edges_seen}
use Rattle.hm_edges.specs.States.{HasNodes, state_of}
use Rattle.hm_edges.specs.declared.pieces.Edge.{Edge}
use Rattle.hm_edges.specs.declared.states.State.{State}
use Rattle.hm_graph_laws.proofs.States.{same_self}
use Rattle.hm_optimality_laws.specs.Dominated as dominated
use Rattle.hm_optimality_laws.specs.Dominated.{Dominance, dominance, dominates_in_front, dominates_after, kept_after, kept_edges}
use Rattle.hm_refs.specs.Tables.{TableView}
use Rattle.hm_graph_laws.specs.Edges as graph
use Rattle.hm_graph_laws.specs.States.{same_state}
use Rattle.hm_graph_laws.specs.Units as units

-- ---- Whether one edge outdoes another

-- equality of two states says whether they mean the same
pub means_same : (v : TableView) (s t : State) (b : Bool) → HasNodes v s.pending → HasNodes v t.pending → (b ≡ true → s ≡ t) → (s ≡ t → b ≡ true) → b ≡ same_state (state_of v s) (state_of v t)
means_same v s t true own has is same = sym (subst (λ x. same_state (state_of v s) (state_of v x) ≡ true) (is refl) (same_self (state_of v s)))
means_same v s t false own has is same = by_test (same_state (state_of v s) (state_of v t)) refl
  where
    by_test : (b : Bool) → same_state (state_of v s) (state_of v t) ≡ b → false ≡ b
    by_test false e = refl
    by_test true e = same (like_states v s t own has e)

-- an answer with `||` and `&&`, by the tests that were made
pub first_holds : (x a b c : Bool) → x ≡ a → x ≡ true → x ≡ (a || (b && c))
first_holds x a b c is holds = let k : a ≡ true = sym is ∙ holds in rw k holds

pub second_fails : (x y a b c : Bool) → x ≡ a → x ≡ false → y ≡ b → y ≡ false → y ≡ (a || (b && c))
second_fails x y a b c is other of fails = let k : a ≡ false = sym is ∙ other in let l : b ≡ false = sym of ∙ fails in rw (k, l) fails

pub third_tells : (x y z a b c : Bool) → x ≡ a → x ≡ false → y ≡ b → y ≡ true → z ≡ c → z ≡ (a || (b && c))
third_tells x y z a b c is other of holds at = let k : a ≡ false = sym is ∙ other in let l : b ≡ true = sym of ∙ holds in rw (k, l) at

-- ---- Whether one of some edges does

any_left : (p : graph.Edge → Bool) (v : TableView) (u : units.Unit) (edges : List Edge) (n : ℕ) (e : Edge) → n < length edges → e ≡ get_or edges n e
    → list_any p (edges_seen v u (drop n edges)) ≡ (p (edge_of v u e) || list_any p (edges_seen v u (drop (n + 1) edges)))
any_left p v u edges n e within at = ap (λ es. list_any p (edges_seen v u es)) (drop_more edges n e within ∙ ap (λ x. x ∷ drop (n + 1) edges) (sym at))

pub any_found : (p : graph.Edge → Bool) (v : TableView) (u : units.Unit) (edges : List Edge) (n : ℕ) (e : Edge) (b all : Bool) → n < length edges → e ≡ get_or edges n e
    → b ≡ p (edge_of v u e) → b ≡ true → list_any p (edges_seen v u (drop n edges)) ≡ all → true ≡ all
any_found p v u edges n e b all within at is holds left =
    let k : p (edge_of v u e) ≡ true = sym is ∙ holds in
    sym (ap (λ x. x || list_any p (edges_seen v u (drop (n + 1) edges))) k) ∙ sym (any_left p v u edges n e within at) ∙ left

pub any_next : (p : graph.Edge → Bool) (v : TableView) (u : units.Unit) (edges : List Edge) (n : ℕ) (e : Edge) (b all : Bool) → n < length edges → e ≡ get_or edges n e
    → b ≡ p (edge_of v u e) → b ≡ false → list_any p (edges_seen v u (drop n edges)) ≡ all → list_any p (edges_seen v u (drop (n + 1) edges)) ≡ all
any_next p v u edges n e b all within at is fails left =
    let k : p (edge_of v u e) ≡ false = sym is ∙ fails in
    sym (ap (λ x. x || list_any p (edges_seen v u (drop (n + 1) edges))) k) ∙ sym (any_left p v u edges n e within at) ∙ left

pub any_end : (p : graph.Edge → Bool) (v : TableView) (u : units.Unit) (edges : List Edge) (n : ℕ) (all : Bool) → length edges ≤ n → list_any p (edges_seen v u (drop n edges)) ≡ all → false ≡ all
any_end p v u edges n all past left = ap (λ es. list_any p (edges_seen v u es)) (sym (drop_all n edges past)) ∙ left

-- ---- The edges that are kept

-- Those of the first edges that are kept are there; the rest is judged.
abbrev pub SomeKept : TableView → units.Unit → List Edge → List Edge → ℕ → Type 0
SomeKept v u edges kept n =
    edges_seen v u kept ++ kept_after (dominance v.entries) u (reverse (edges_seen v u (take n edges))) (edges_seen v u (drop n edges)) ≡ kept_edges (dominance v.entries) u (edges_seen v u edges)

-- whether the edge is outdone by one of those before it or after it
abbrev pub is_dominated : TableView → units.Unit → Edge → List Edge → List Edge → Bool
is_dominated v u e front after = list_any (dominates_in_front v.entries u (edge_of v u e)) (edges_seen v u front) || list_any (dominates_after v.entries u (edge_of v u e)) (edges_seen v u after)

any_reverse : (f : graph.Edge → Bool) (es : List graph.Edge) → list_any f (reverse es) ≡ list_any f es
any_reverse f es = sym (list_any-IsPermutation f es (reverse es) (IsPermutation-reverse es))

-- the rest, by whether its first edge is outdone
rest_by : (d : Dominance) (u : units.Unit) (before : List graph.Edge) (e : graph.Edge) (es : List graph.Edge) (b : Bool) → dominated.is_dominated d u before e es ≡ b
    → kept_after d u (reverse before) (e ∷ es) ≡ cond b (kept_after d u (e ∷ reverse before) es) (e ∷ kept_after d u (e ∷ reverse before) es)
rest_by d u before e es b is =
    ap (λ x. cond x (kept_after d u (e ∷ reverse before) es) (e ∷ kept_after d u (e ∷ reverse before) es)) (ap (λ x. x || list_any (d.after u e) es) (any_reverse (d.in_front u e) before) ∙ is)

-- one more edge before it
front_more : (v : TableView) (u : units.Unit) (edges : List Edge) (n : ℕ) (e : Edge) → n < length edges → e ≡ get_or edges n e
    → reverse (edges_seen v u (take (n + 1) edges)) ≡ edge_of v u e ∷ reverse (edges_seen v u (take n edges))
front_more v u edges n e within at =
    ap (λ es. reverse (edges_seen v u es)) (take_more edges n e within ∙ ap (λ x. take n edges ++ x ∷ []) (sym at))
    ∙ ap reverse (map-append (edge_of v u) (take n edges) (e ∷ [])) ∙ reverse-append (edges_seen v u (take n edges)) (edge_of v u e ∷ [])

judged : (v : TableView) (u : units.Unit) (edges : List Edge) (n : ℕ) (e : Edge) (b : Bool) → n < length edges → e ≡ get_or edges n e → is_dominated v u e (take n edges) (drop (n + 1) edges) ≡ b
    → kept_after (dominance v.entries) u (reverse (edges_seen v u (take n edges))) (edges_seen v u (drop n edges))
    ≡ cond b (kept_after (dominance v.entries) u (reverse (edges_seen v u (take (n + 1) edges))) (edges_seen v u (drop (n + 1) edges))) (edge_of v u e ∷ kept_after (dominance v.entries) u (reverse (edges_seen v u (take (n + 1) edges))) (edges_seen v u (drop (n + 1) edges)))
judged v u edges n e b within at is =
    let rest : drop n edges ≡ e ∷ drop (n + 1) edges = drop_more edges n e within ∙ ap (λ x. x ∷ drop (n + 1) edges) (sym at) in
    ap (λ es. kept_after (dominance v.entries) u (reverse (edges_seen v u (take n edges))) (edges_seen v u es)) rest ∙ rest_by (dominance v.entries) u (edges_seen v u (take n edges)) (edge_of v u e) (edges_seen v u (drop (n + 1) edges)) b is
    ∙ ap (λ before. cond b (kept_after (dominance v.entries) u before (edges_seen v u (drop (n + 1) edges))) (edge_of v u e ∷ kept_after (dominance v.entries) u before (edges_seen v u (drop (n + 1) edges)))) (sym (front_more v u edges n e within at))

kept_out : (v : TableView) (u : units.Unit) (edges kept : List Edge) (n : ℕ) (e : Edge) → n < length edges → e ≡ get_or edges n e → is_dominated v u e (take n edges) (drop (n + 1) edges) ≡ true
    → SomeKept v u edges kept n → SomeKept v u edges kept (n + 1)
kept_out v u edges kept n e within at is some = ap (λ es. edges_seen v u kept ++ es) (sym (judged v u edges n e true within at is)) ∙ some

kept_in : (v : TableView) (u : units.Unit) (edges kept : List Edge) (n : ℕ) (e : Edge) → n < length edges → e ≡ get_or edges n e → is_dominated v u e (take n edges) (drop (n + 1) edges) ≡ false
    → SomeKept v u edges kept n → SomeKept v u edges (kept ++ e ∷ []) (n + 1)
kept_in v u edges kept n e within at is some =
    let left : List graph.Edge = kept_after (dominance v.entries) u (reverse (edges_seen v u (take (n + 1) edges))) (edges_seen v u (drop (n + 1) edges)) in
    ap (λ es. es ++ left) (map-append (edge_of v u) kept (e ∷ [])) ∙ append_assoc (edges_seen v u kept) (edge_of v u e ∷ []) left
    ∙ ap (λ es. edges_seen v u kept ++ es) (sym (judged v u edges n e false within at is)) ∙ some

-- a slice up to the end
pub up_to_end : (edges : List Edge) (n : ℕ) → take (length edges - n) (drop n edges) ≡ drop n edges
up_to_end edges n = take_all (length edges - n) (drop n edges) (omega (arith, length-drop n edges))

pub kept_next : (v : TableView) (u : units.Unit) (edges kept : List Edge) (n : ℕ) (e : Edge) (b : Bool) → n < length edges → e ≡ get_or edges n e → b ≡ is_dominated v u e (take n edges) (drop (n + 1) edges)
    → SomeKept v u edges kept n → SomeKept v u edges (kept ++ cond b [] (e ∷ [])) (n + 1)
kept_next v u edges kept n e true within at is some = subst (λ k. SomeKept v u edges k (n + 1)) (sym (append-nil kept)) (kept_out v u edges kept n e within at (sym is) some)
kept_next v u edges kept n e false within at is some = kept_in v u edges kept n e within at (sym is) some

pub known_at : (v : TableView) (edges : List Edge) (n : ℕ) (e : Edge) → AreOfTable v edges → n < length edges → e ≡ get_or edges n e → IsOfTable v e
known_at v [] n e known within at = absurd (omega arith)
known_at v (d ∷ edges) zero e known within at = subst (IsOfTable v) (sym at) known.0
known_at v (d ∷ edges) (suc n) e known within at = known_at v edges n e known.1 (omega arith) at

known_last : (v : TableView) (kept : List Edge) (e : Edge) → AreOfTable v kept → IsOfTable v e → AreOfTable v (kept ++ e ∷ [])
known_last v [] e known own = (own, tt)
known_last v (d ∷ kept) e known own = (known.0, known_last v kept e known.1 own)

pub known_next : (v : TableView) (kept : List Edge) (e : Edge) (b : Bool) → AreOfTable v kept → IsOfTable v e → AreOfTable v (kept ++ cond b [] (e ∷ []))
known_next v kept e true known own = subst (AreOfTable v) (sym (append-nil kept)) known
known_next v kept e false known own = known_last v kept e known own

-- those of some first edges, and those after them
pub known_front : (v : TableView) (edges : List Edge) (n : ℕ) → AreOfTable v edges → AreOfTable v (take n edges)
known_front v edges zero known = tt
known_front v [] (suc n) known = tt
known_front v (e ∷ edges) (suc n) known = (known.0, known_front v edges n known.1)

pub known_after : (v : TableView) (edges : List Edge) (n : ℕ) → AreOfTable v edges → AreOfTable v (drop n edges)
known_after v edges zero known = known
known_after v [] (suc n) known = tt
known_after v (e ∷ edges) (suc n) known = known_after v edges n known.1

-- the edges that are kept are there at the end
pub all_kept : (v : TableView) (u : units.Unit) (edges kept : List Edge) (n : ℕ) → length edges ≤ n → SomeKept v u edges kept n → edges_seen v u kept ≡ kept_edges (dominance v.entries) u (edges_seen v u edges)
all_kept v u edges kept n past some =
    sym (append-nil (edges_seen v u kept))
    ∙ ap (λ es. edges_seen v u kept ++ kept_after (dominance v.entries) u (reverse (edges_seen v u (take n edges))) (edges_seen v u es)) (sym (drop_all n edges past)) ∙ some
