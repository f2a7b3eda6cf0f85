-- A choice fits into a byte.
use Rattle.std.proofs.Common.{◌≤◌, ◌<◌, ℕ, zero, suc, Bool, true, false, cond, List, [], ◌∷◌, get_or, length, Option, arith}
use Rattle.hm_edges.specs.Pieces.{piece_bytes}
use Rattle.hm_graph.proofs.FewHops.{states_have_few_hops}
use Rattle.hm_graph.specs.FewHops.{AreFew, IsFewStep}
use Rattle.hm_graph.specs.Graphs.{GraphView, IsGraph}
use Rattle.hm_graph.specs.Prices.{best_price, price_over}
use Rattle.hm_graph.specs.Steps.{Step}
use Rattle.hm_graph.specs.Ways.{choice, place_over}
use Rattle.hm_graph.specs.declared.hops.Hop.{Hop}
use Rattle.hm_graph_laws.specs.Layers.{first_layer}
use Rattle.hm_graph_laws.specs.Prices.{Row}
use Rattle.hm_graph_laws.specs.Units.{units_of}
use Rattle.hm_graph_laws.specs.Ways.{same_price}
use Rattle.hm_refs.specs.Tables.{IsTable}

few_step : (steps : List Step) (k : ℕ) → AreFew steps → IsFewStep (get_or steps k [])
few_step [] k few = tt
few_step (step ∷ steps) zero few = few.0
few_step (step ∷ steps) (suc k) few = few_step steps k few.1

few_hops : (step : Step) (place : ℕ) → IsFewStep step → length (get_or step place []) ≤ 71
few_hops [] place few = omega arith
few_hops (hops ∷ step) zero few = few.0
few_hops (hops ∷ step) (suc place) few = few_hops step place few.1

place_within : (next_row : Row) (price : Option ℕ) (hops : List Hop) → place_over next_row price hops ≤ length hops
place_within next_row price [] = omega arith
place_within next_row price (h ∷ hops) = by_test (same_price (price_over next_row h) price) (place_within next_row price hops)
  where
    by_test : (b : Bool) → place_over next_row price hops ≤ length hops → cond b 0 (suc (place_over next_row price hops)) ≤ suc (length hops)
    by_test true within = omega arith
    by_test false within = omega (arith, within)

-- the place of the first hop with the least price of a state
pub choice_fits : (next_row : Row) (step : Step) (place : ℕ) → IsFewStep step → choice next_row (get_or step place []) < 256
choice_fits next_row step place few =
    let hops = get_or step place [] in
    let within : choice next_row hops ≤ length hops = place_within next_row (best_price next_row hops) hops in
    let most : length hops ≤ 71 = few_hops step place few in
    omega (arith, within, most)

-- each step of a graph has few hops
pub graph_step_few : (g : GraphView) → IsTable g.source.table.entries → IsGraph g → (k : ℕ) → IsFewStep (get_or g.steps k [])
graph_step_few g table is k =
    few_step g.steps k
    (states_have_few_hops g.source.table.entries table g.source.rules g.source.format (piece_bytes g.source.table.entries) (units_of g.source.rules g.source.tree) first_layer g.steps g.last is.fits)
