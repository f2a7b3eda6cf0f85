-- Places of states among others.
use Rattle.std.proofs.Common.{◌≡◌, ◌∙◌, ℕ, zero, suc, ◌+◌, ◌<◌, ◌≤◌, Bool, true, false, List, [], ◌∷◌, length, get_or, drop, Option, Some, None, refl, sym, ap, subst, arith}
use Rattle.std.proofs.lemmas.List.{drop_more, drop_all}
use Rattle.std.specs.Option.{option_map}
use Rattle.hm_graph_laws.proofs.States.{same_self}
use Rattle.hm_refs.specs.Tables.{TableView}
use Rattle.hm_graph_laws.specs.States.{same_state}
use Rattle.hm_edges.specs.States.{HasNodes, state_of}
use Rattle.hm_edges.specs.declared.states.State.{State}
use Rattle.hm_edges.proofs.LikeStates.{like_states}
use Rattle.hm_graph.specs.Fits.{place_of}
use Rattle.hm_graph.specs.Layers.{HaveNodes, states_of}

pub node_at : (v : TableView) (states : List State) (k : ℕ) (d : State) → HaveNodes v states → k < length states → HasNodes v (get_or states k d).pending
node_at v [] k d nodes within = absurd (omega arith)
node_at v (s ∷ states) zero d nodes within = nodes.0
node_at v (s ∷ states) (suc k) d nodes within = node_at v states k d nodes.1 (omega arith)

-- two states that differ mean different states
differ : (v : TableView) (s t : State) → HasNodes v s.pending → HasNodes v t.pending → (s ≡ t → ⊥) → same_state (state_of v s) (state_of v t) ≡ false
differ v s t of_s of_t other = by_test (same_state (state_of v s) (state_of v t)) refl
  where
    by_test : (b : Bool) → same_state (state_of v s) (state_of v t) ≡ b → b ≡ false
    by_test true e = absurd (other (like_states v s t of_s of_t e))
    by_test false e = refl

moved_on : (n : ℕ) (place : Option ℕ) → option_map (λ k. n + k) (option_map (λ k. suc k) place) ≡ option_map (λ k. (n + 1) + k) place
moved_on n None = refl
moved_on n (Some k) = ap Some (let e : n + suc k ≡ (n + 1) + k = omega arith in e)

pub not_moved : (place : Option ℕ) → place ≡ option_map (λ k. 0 + k) place
not_moved None = refl
not_moved (Some k) = ap Some (let e : k ≡ 0 + k = omega arith in e)

-- the place of a state, by its place among those from n on
abbrev pub IsLeftFrom : TableView → List State → State → ℕ → Type 0
IsLeftFrom v states s n = place_of (states_of v states) (state_of v s) ≡ option_map (λ k. n + k) (place_of (states_of v (drop n states)) (state_of v s))

pub place_here : (v : TableView) (states : List State) (s t : State) (n : ℕ) → n < length states → t ≡ get_or states n t → t ≡ s → IsLeftFrom v states s n → Some n ≡ place_of (states_of v states) (state_of v s)
place_here v states s t n within is same left =
    let rest : drop n states ≡ t ∷ drop (n + 1) states = drop_more states n t within ∙ ap (λ x. x ∷ drop (n + 1) states) (sym is) in
    let self : same_state (state_of v t) (state_of v s) ≡ true = ap (λ x. same_state (state_of v t) (state_of v x)) (sym same) ∙ same_self (state_of v t) in
    let here : place_of (states_of v (t ∷ drop (n + 1) states)) (state_of v s) ≡ Some 0 = rw self refl in
    sym (left ∙ ap (λ xs. option_map (λ k. n + k) (place_of (states_of v xs) (state_of v s))) rest ∙ ap (option_map (λ k. n + k)) here ∙ ap Some (let e : n + 0 ≡ n = omega arith in e))

pub place_later : (v : TableView) (states : List State) (s t : State) (n : ℕ) → HaveNodes v states → HasNodes v s.pending → n < length states → t ≡ get_or states n t → (t ≡ s → ⊥) → IsLeftFrom v states s n → IsLeftFrom v states s (n + 1)
place_later v states s t n nodes own within is other left =
    let rest : drop n states ≡ t ∷ drop (n + 1) states = drop_more states n t within ∙ ap (λ x. x ∷ drop (n + 1) states) (sym is) in
    let of_t : HasNodes v t.pending = subst (λ x. HasNodes v x.pending) (sym is) (node_at v states n t nodes within) in
    let others : same_state (state_of v t) (state_of v s) ≡ false = differ v t s of_t own other in
    let later : place_of (states_of v (t ∷ drop (n + 1) states)) (state_of v s) ≡ option_map (λ k. suc k) (place_of (states_of v (drop (n + 1) states)) (state_of v s)) = rw others refl in
    left ∙ ap (λ xs. option_map (λ k. n + k) (place_of (states_of v xs) (state_of v s))) rest ∙ ap (option_map (λ k. n + k)) later ∙ moved_on n (place_of (states_of v (drop (n + 1) states)) (state_of v s))

pub place_none : (v : TableView) (states : List State) (s : State) (n : ℕ) → length states ≤ n → IsLeftFrom v states s n → None ≡ place_of (states_of v states) (state_of v s)
place_none v states s n end left = sym (left ∙ ap (λ xs. option_map (λ k. n + k) (place_of (states_of v xs) (state_of v s))) (drop_all n states end))
