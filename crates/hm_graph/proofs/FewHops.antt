-- A state has as many hops as edges are left of those of its unit, and these are few.
use Rattle.std.proofs.Common.{◌≡◌, ℕ, suc, ◌≤◌, Bool, true, false, cond, List, [], ◌∷◌, length, refl, ap, arith}
use Rattle.hm_base.specs.declared.plain.Format.{Format}
use Rattle.hm_base.specs.declared.plain.Format.TheVariants.{Full, Compact, Sparse}
use Rattle.hm_edges.specs.declared.pieces.Piece.{Piece}
use Rattle.hm_graph_laws.proofs.EdgeCounts.{states_have_few_edges}
use Rattle.hm_graph_laws.specs.Edges.{Edge}
use Rattle.hm_graph_laws.specs.ExchangeLaws.{sparing_plain}
use Rattle.hm_graph_laws.specs.Layers.{states_after}
use Rattle.hm_graph_laws.specs.States.{State}
use Rattle.hm_graph_laws.specs.UnitEdges.{edges_of}
use Rattle.hm_optimality_laws.specs.Formats.{kept_by}
use Rattle.hm_optimality_laws.specs.Dominated.{Dominance, dominance, is_dominated, kept_after}
use Rattle.hm_graph_laws.specs.Units.{Unit}
use Rattle.hm_refs.specs.Names.{Entry}
use Rattle.hm_graph.specs.FewHops.{IsFewStep, StatesHaveFewHops}
use Rattle.hm_graph.specs.Fits.{HopsFit, StepFits}
use Rattle.hm_graph.specs.Graphs.{tree_edges}
use Rattle.hm_graph.specs.Steps.{Step}
use Rattle.hm_graph.specs.declared.hops.Hop.{Hop}

-- ---- Edges that are left

kept_few : (d : Dominance) (unit : Unit) (before es : List Edge) → length (kept_after d unit before es) ≤ length es
kept_few d unit before [] = omega arith
kept_few d unit before (e ∷ es) = by_test (is_dominated d unit before e es) (kept_few d unit (e ∷ before) es)
  where
    by_test : (b : Bool) → length (kept_after d unit (e ∷ before) es) ≤ length es → length (cond b (kept_after d unit (e ∷ before) es) (e ∷ kept_after d unit (e ∷ before) es)) ≤ suc (length es)
    by_test true h = omega (arith, h)
    by_test false h = omega (arith, h)

left_few : (format : Format) (t : List Entry) (unit : Unit) (es : List Edge) → length (kept_by format t unit es) ≤ length es
left_few Full t unit es = omega arith
left_few Compact t unit es = omega arith
left_few Sparse t unit es = kept_few (dominance t) unit [] es

-- ---- Hops

as_many : (bytes : Piece → List ℕ) (after : List State) (es : List Edge) (hops : List Hop) → HopsFit bytes after es hops → length hops ≡ length es
as_many bytes after [] [] h = refl
as_many bytes after [] (hop ∷ hops) h = absurd h
as_many bytes after (e ∷ es) [] h = absurd h
as_many bytes after (e ∷ es) (hop ∷ hops) h = ap (λ n. suc n) (as_many bytes after es hops h.1)

step_few : (bytes : Piece → List ℕ) (edges : State → List Edge) → ((s : State) → length (edges s) ≤ 71) → (after states : List State) (step : Step) → StepFits bytes edges after states step → IsFewStep step
step_few bytes edges few after [] [] h = tt
step_few bytes edges few after [] (hops ∷ step) h = absurd h
step_few bytes edges few after (s ∷ states) [] h = absurd h
step_few bytes edges few after (s ∷ states) (hops ∷ step) h = (omega (arith, as_many bytes after (edges s) hops h.0, few s), step_few bytes edges few after states step h.1)

pub states_have_few_hops : StatesHaveFewHops
states_have_few_hops t k rules format bytes [] states [] last h = tt
states_have_few_hops t k rules format bytes [] states (step ∷ steps) last h = absurd h
states_have_few_hops t k rules format bytes (unit ∷ units) states [] last h = absurd h
states_have_few_hops t k rules format bytes (unit ∷ units) states (step ∷ steps) last h = (
  step_few (bytes unit) (tree_edges t rules format unit) few (states_after (tree_edges t rules format) unit states) states step h.0,
  states_have_few_hops t k rules format bytes units (states_after (tree_edges t rules format) unit states) steps last h.1,
)
  where
    few : (s : State) → length (tree_edges t rules format unit s) ≤ 71
    few s = omega (arith, left_few format t unit (edges_of (sparing_plain t rules) unit s), states_have_few_edges (sparing_plain t rules) k unit s)
