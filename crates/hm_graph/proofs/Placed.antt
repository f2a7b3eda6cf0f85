-- States that are added after others where they aren't there yet, and places that stay.
use Rattle.std.proofs.Common.{◌≡◌, ◌∙◌, ℕ, suc, Bool, true, false, ◌||◌, cond, List, [], ◌∷◌, ◌++◌, length, Option, Some, None, is_some, refl, sym, ap, subst}
use Rattle.std.proofs.lemmas.List.{map-append, length-map}
use Rattle.std.specs.List.{list_any}
use Rattle.std.specs.Option.{option_map}
use Rattle.hm_graph_laws.specs.Layers.{with_state, with_ends, with_layer}
use Rattle.hm_graph_laws.specs.Ways.{Edges}
use Rattle.hm_graph_laws.proofs.States.{same_self}
use Rattle.hm_refs.specs.Tables.{TableView}
use Rattle.hm_graph_laws.specs.Edges.{Edge}
use Rattle.hm_graph_laws.specs.States as graph
use Rattle.hm_graph_laws.specs.States.{same_state}
use Rattle.hm_graph_laws.specs.Units.{Unit}
use Rattle.hm_edges.specs.States.{HasNodes, state_of}
use Rattle.hm_edges.specs.declared.states.State.{State}
use Rattle.hm_graph.specs.Fits.{place_of}
use Rattle.hm_graph.specs.Layers.{HaveNodes, states_of, IsPlaced}

-- a state has a place where it is there
place_any : (states : List graph.State) (s : graph.State) → is_some (place_of states s) ≡ list_any (λ t. same_state t s) states
place_any [] s = refl
place_any (t ∷ states) s = by_test (same_state t s) (place_any states s)
  where
    by_test : (b : Bool) → is_some (place_of states s) ≡ list_any (λ x. same_state x s) states
        → is_some (cond b (Some 0) (option_map (λ n. suc n) (place_of states s))) ≡ (b || list_any (λ x. same_state x s) states)
    by_test true more = refl
    by_test false more = still_some (place_of states s) ∙ more
      where
        still_some : (o : Option ℕ) → is_some (option_map (λ n. suc n) o) ≡ is_some o
        still_some None = refl
        still_some (Some n) = refl

state_there : (states : List graph.State) (s : graph.State) (n : ℕ) → place_of states s ≡ Some n → with_state states s ≡ states
state_there states s n at =
    let there : list_any (λ t. same_state t s) states ≡ true = sym (place_any states s) ∙ ap is_some at in
    rw there refl

state_new : (states : List graph.State) (s : graph.State) → place_of states s ≡ None → with_state states s ≡ states ++ s ∷ []
state_new states s none =
    let other : list_any (λ t. same_state t s) states ≡ false = sym (place_any states s) ∙ ap is_some none in
    rw other refl

-- a state that wasn't there has the place after the others
place_new : (states : List graph.State) (s : graph.State) → place_of states s ≡ None → place_of (states ++ s ∷ []) s ≡ Some (length states)
place_new [] s none = rw (same_self s) refl
place_new (t ∷ states) s none = by_test (same_state t s) none (λ e. place_new states s e)
  where
    by_test : (b : Bool) → cond b (Some 0) (option_map (λ n. suc n) (place_of states s)) ≡ None
        → (place_of states s ≡ None → place_of (states ++ s ∷ []) s ≡ Some (length states))
        → cond b (Some 0) (option_map (λ n. suc n) (place_of (states ++ s ∷ []) s)) ≡ Some (suc (length states))
    by_test true e more = absurd (cc)
    by_test false e more = ap (option_map (λ n. suc n)) (more (unmoved (place_of states s) e))
      where
        unmoved : (o : Option ℕ) → option_map (λ n. suc n) o ≡ None → o ≡ None
        unmoved None h = refl
        unmoved (Some n) h = absurd (cc)

nodes_more : (v : TableView) (states : List State) (s : State) → HaveNodes v states → HasNodes v s.pending → HaveNodes v (states ++ s ∷ [])
nodes_more v [] s nodes own = (own, tt)
nodes_more v (t ∷ states) s nodes own = (nodes.0, nodes_more v states s nodes.1 own)

pub placed_there : (v : TableView) (s : State) (states : List State) (n : ℕ) → HaveNodes v states → place_of (states_of v states) (state_of v s) ≡ Some n → IsPlaced v s states states n
placed_there v s states n nodes at = record { states = sym (state_there (states_of v states) (state_of v s) n at); place = at; nodes = nodes }

pub placed_new : (v : TableView) (s : State) (before now : List State) (n : ℕ) → HaveNodes v before → HasNodes v s.pending → place_of (states_of v before) (state_of v s) ≡ None
    → now ≡ before ++ s ∷ [] → n ≡ length before → IsPlaced v s before now n
placed_new v s before now n nodes own none is last =
    let states : states_of v now ≡ states_of v before ++ state_of v s ∷ [] = ap (states_of v) is ∙ map-append (state_of v) before (s ∷ []) in
    record {
      states = states ∙ sym (state_new (states_of v before) (state_of v s) none);
      place = ap (λ xs. place_of xs (state_of v s)) states ∙ place_new (states_of v before) (state_of v s) none ∙ ap Some (length-map before (state_of v) ∙ sym last);
      nodes = subst (HaveNodes v) (sym is) (nodes_more v before s nodes own);
    }

-- ---- Places that stay

-- each place among the first states is one among the second ones
abbrev pub Keeps : List graph.State → List graph.State → Type 0
Keeps before now = (s : graph.State) (n : ℕ) → place_of before s ≡ Some n → place_of now s ≡ Some n

place_stays : (states more : List graph.State) → Keeps states (states ++ more)
place_stays [] more s n at = absurd (cc)
place_stays (t ∷ states) more s n at = by_test (same_state t s) at (λ k h. place_stays states more s k h)
  where
    by_test : (b : Bool) → cond b (Some 0) (option_map (λ k. suc k) (place_of states s)) ≡ Some n → ((k : ℕ) → place_of states s ≡ Some k → place_of (states ++ more) s ≡ Some k)
        → cond b (Some 0) (option_map (λ k. suc k) (place_of (states ++ more) s)) ≡ Some n
    by_test true e stays = e
    by_test false e stays = later (place_of states s) refl e
      where
        later : (o : Option ℕ) → place_of states s ≡ o → option_map (λ k. suc k) o ≡ Some n → option_map (λ k. suc k) (place_of (states ++ more) s) ≡ Some n
        later None h e = absurd (cc)
        later (Some k) h e = ap (option_map (λ m. suc m)) (stays k h) ∙ e

pub state_keeps : (states : List graph.State) (s : graph.State) → Keeps states (with_state states s)
state_keeps states s = by_test (list_any (λ t. same_state t s) states)
  where
    by_test : (b : Bool) → Keeps states (cond b states (states ++ s ∷ []))
    by_test true = λ t n at. at
    by_test false = place_stays states (s ∷ [])

pub ends_keep : (states : List graph.State) (es : List Edge) → Keeps states (with_ends states es)
ends_keep states [] = λ s n at. at
ends_keep states (e ∷ es) = λ s n at. ends_keep (with_state states e.to) es s n (state_keeps states e.to s n at)

-- ---- One more

pub ends_more : (states : List graph.State) (es : List Edge) (e : Edge) → with_ends states (es ++ e ∷ []) ≡ with_state (with_ends states es) e.to
ends_more states [] e = refl
ends_more states (d ∷ es) e = ends_more (with_state states d.to) es e

pub layer_more : (edges : Edges) (ends : List graph.State) (u : Unit) (states : List graph.State) (s : graph.State) → with_layer edges ends u (states ++ s ∷ []) ≡ with_ends (with_layer edges ends u states) (edges u s)
layer_more edges ends u [] s = refl
layer_more edges ends u (t ∷ states) s = layer_more edges (with_ends ends (edges u t)) u states s
