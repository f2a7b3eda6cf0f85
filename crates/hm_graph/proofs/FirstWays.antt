-- The way over steps is the first one.
use Rattle.std.proofs.Common.{◌≡◌, ℕ, suc, Bool, List, [], ◌∷◌, ◌++◌, Option, Some, None, true, false, cond, refl, subst, slice_get, slice_index_or, ◌⊎◌, inl, inr}
use Rattle.hm_graph_laws.specs.Edges.{Edge}
use Rattle.hm_graph_laws.specs.States.{State}
use Rattle.hm_graph_laws.specs.Units.{Unit}
use Rattle.hm_edges.specs.declared.pieces.Piece.{Piece}
use Rattle.hm_graph_laws.specs.Layers.{states_after}
use Rattle.hm_graph_laws.specs.Prices.{Row}
use Rattle.hm_graph_laws.specs.Ways as graph
use Rattle.hm_graph_laws.specs.Ways.{Edges, over, best, least, same_price, first_edge, first_way}
use Rattle.hm_graph_laws.proofs.States.{same_is}
use Rattle.hm_graph.specs.Fits.{place_of, HopFits, HopsFit, StepFits, StepsFit}
use Rattle.hm_graph.specs.Prices.{price_over, best_price, first_row, rows_of}
use Rattle.hm_graph.specs.Steps.{Step}
use Rattle.hm_graph.specs.Ways.{place_over, along, way_from}
use Rattle.hm_graph.specs.declared.hops.Hop.{Hop}
use Rattle.hm_graph.proofs.StepPlaces.{Tells, IsFirst, IsLater, place_cases}
use Rattle.hm_graph.proofs.Rows.{price_agrees, best_agrees, first_tells, rows_least}

-- an edge and a hop that is it, or neither
abbrev pub SameFound : (Piece → List ℕ) → List State → Option Edge → Option Hop → Type 0
SameFound bytes after None None = Prim.Unit {0}
SameFound bytes after None (Some x) = ⊥
SameFound bytes after (Some e) None = ⊥
SameFound bytes after (Some e) (Some x) = HopFits bytes after e x

-- the first hop over which a price comes is the first edge over which it does
found_agrees : (bytes : Piece → List ℕ) (after : List State) (row : Row) (f : State → Option ℕ) (price : Option ℕ) (edges : List Edge) (hops : List Hop)
    → Tells after row f → HopsFit bytes after edges hops → SameFound bytes after (first_edge f price edges) (slice_get hops (place_over row price hops))
found_agrees bytes after row f price [] [] tells h = tt
found_agrees bytes after row f price [] (x ∷ hops) tells h = absurd h
found_agrees bytes after row f price (e ∷ edges) [] tells h = absurd h
found_agrees bytes after row f price (e ∷ edges) (x ∷ hops) tells h =
    subst (λ q. SameFound bytes after (cond (same_price q price) (Some e) (first_edge f price edges)) (slice_get (x ∷ hops) (place_over row price (x ∷ hops))))
    (price_agrees bytes after row f e x tells h.0)
    (by_test (same_price (price_over row x) price) (found_agrees bytes after row f price edges hops tells h.1))
  where
    by_test : (b : Bool) → SameFound bytes after (first_edge f price edges) (slice_get hops (place_over row price hops))
        → SameFound bytes after (cond b (Some e) (first_edge f price edges)) (slice_get (x ∷ hops) (cond b 0 (suc (place_over row price hops))))
    by_test true more = h.0
    by_test false more = more

-- the hops at the place of a state are its edges
pub hops_at : (bytes : Piece → List ℕ) (after : List State) (edges : State → List Edge) (states : List State) (step : Step) (s : State) (n : ℕ)
    → StepFits bytes edges after states step → place_of states s ≡ Some n → HopsFit bytes after (edges s) (slice_index_or step n [])
hops_at bytes after edges [] step s n h e = absurd (cc)
hops_at bytes after edges (t ∷ states) [] s n h e = absurd h
hops_at bytes after edges (t ∷ states) (hops ∷ step) s n h e = by_case (place_cases t s states n e) (λ m k. hops_at bytes after edges states step s m h.1 k)
  where
    by_case : IsFirst t s n ⊎ IsLater t s states n → ((m : ℕ) → place_of states s ≡ Some m → HopsFit bytes after (edges s) (slice_index_or step m []))
        → HopsFit bytes after (edges s) (slice_index_or (hops ∷ step) n [])
    by_case (inl first) more =
        subst (λ k. HopsFit bytes after (edges s) (slice_index_or (hops ∷ step) k [])) first.place (subst (λ x. HopsFit bytes after (edges x) hops) (same_is t s first.same) h.0)
    by_case (inr later) more = subst (λ k. HopsFit bytes after (edges s) (slice_index_or (hops ∷ step) k [])) later.place (more later.before later.found)

along_agrees : (bytes : Piece → List ℕ) (after : List State) (more : ℕ → List ℕ) (rest : State → List ℕ) (e : Option Edge) (x : Option Hop) → SameFound bytes after e x
    → ((s : State) (n : ℕ) → place_of after s ≡ Some n → more n ≡ rest s) → along bytes more x ≡ graph.along e rest
along_agrees bytes after more rest None None h same = refl
along_agrees bytes after more rest None (Some x) h same = absurd h
along_agrees bytes after more rest (Some e) None h same = absurd h
along_agrees bytes after more rest (Some e) (Some x) h same = λ i. h.writes i ++ same e.to x.to h.to i

-- the hop that is taken is the edge that the first way takes
taken_agrees : (bytes : Piece → List ℕ) (after : List State) (row : Row) (f : State → Option ℕ) (edges : List Edge) (hops : List Hop)
    → Tells after row f → HopsFit bytes after edges hops → SameFound bytes after (first_edge f (best f edges) edges) (slice_get hops (place_over row (best_price row hops) hops))
taken_agrees bytes after row f edges hops tells h =
    subst (λ price. SameFound bytes after (first_edge f price edges) (slice_get hops (place_over row (best_price row hops) hops))) (best_agrees bytes after row f edges hops tells h)
    (found_agrees bytes after row f (best_price row hops) edges hops tells h)

pub way_first : (edges : Edges) (bytes : Unit → Piece → List ℕ) (units : List Unit) (states : List State) (steps : List Step) (last : ℕ) (s : State) (place : ℕ)
    → StepsFit edges bytes units states steps last → place_of states s ≡ Some place → way_from bytes last units steps place ≡ first_way edges units s
way_first edges bytes [] states [] last s place h e = refl
way_first edges bytes [] states (step ∷ steps) last s place h e = absurd h
way_first edges bytes (unit ∷ units) states [] last s place h e = absurd h
way_first edges bytes (unit ∷ units) states (step ∷ steps) last s place h e =
    let next : List State = states_after edges unit states in
    let row : Row = first_row (rows_of last steps) in
    let hops : List Hop = slice_index_or step place [] in
    let tells : Tells next row (least edges units) = first_tells edges bytes units next steps last (rows_least edges bytes units next steps last h.1) in
    along_agrees (bytes unit) next (way_from bytes last units steps) (first_way edges units) (first_edge (least edges units) (best (least edges units) (edges unit s)) (edges unit s))
    (slice_get hops (place_over row (best_price row hops) hops))
    (taken_agrees (bytes unit) next row (least edges units) (edges unit s) hops tells (hops_at (bytes unit) next (edges unit) states step s place h.0 e))
    (λ t n k. way_first edges bytes units next steps last t n h.1 k)
