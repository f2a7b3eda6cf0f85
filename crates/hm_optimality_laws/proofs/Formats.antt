-- Least prices, the first way and what prices show are the same in the graph of each format.
use Rattle.std.proofs.Common.{◌≡◌, ◌∙◌, ℕ, List, Some, refl, sym}
use Rattle.hm_base.specs.Walks.{Event}
use Rattle.hm_base.specs.declared.plain.SpellRules.{SpellRules}
use Rattle.hm_base.specs.declared.plain.Format.{Format}
use Rattle.hm_base.specs.declared.plain.Format.TheVariants.{Full, Compact, Sparse}
use Rattle.hm_elements.specs.Settled.{Settled}
use Rattle.hm_graph_laws.proofs.LeastPrices.{first_least, least_number}
use Rattle.hm_graph_laws.specs.Layers.{first_layer}
use Rattle.hm_graph_laws.specs.Prices.{Row, Feasible, first_price, least_prices}
use Rattle.hm_graph_laws.specs.UnitEdges.{edges_of}
use Rattle.hm_graph_laws.specs.Ways.{least, first_way}
use Rattle.hm_optimality_laws.proofs.Dominance.{dominance_loses_nothing}
use Rattle.hm_optimality_laws.proofs.Least.{needless}
use Rattle.hm_optimality_laws.proofs.Shown.{sparse_prices_show}
use Rattle.hm_optimality_laws.proofs.Values.{trees_have_values}
use Rattle.hm_optimality_laws.specs.Formats.{edges_by}
use Rattle.hm_optimality_laws.specs.Dominated.{dominance}
use Rattle.hm_optimality_laws.specs.SparseLaws.{HaveValues}
use Rattle.hm_refs.specs.Names.{Entry}
use Rattle.hm_refs.specs.Tables.{IsTable}
use Rattle.hm_spelling_spec.specs.Spellings.{Shortest}
use Rattle.hm_spelling_spec.specs.Tags.{Spelling}
use Rattle.hm_graph_laws.specs.States.{State, first_state}
use Rattle.hm_graph_laws.specs.Units.{Unit, units_of}
use Rattle.hm_optimality_laws.proofs.Best.{feasible_prices_show, spares_plain}
use Rattle.hm_optimality_laws.proofs.Direct.{trees_have_ways}
use Rattle.hm_graph_laws.specs.ExchangeLaws.{sparing_plain}

same_least : (g : Spelling) → IsTable g.table → (format : Format) (units : List Unit) → HaveValues units → (s : State) → least (edges_by format g.table (edges_of g)) units s ≡ least (edges_of g) units s
same_least g k Full units have s = refl
same_least g k Compact units have s = refl
same_least g k Sparse units have s = (needless (dominance g.table) (edges_of g) (dominance_loses_nothing g k)).0 units have s

-- the first of the least prices
pub same_first : (t : List Entry) → IsTable t → (r : SpellRules) (format : Format) (w : List Event)
    → first_price (least_prices (edges_by format t (edges_of (sparing_plain t r))) (units_of r w) first_layer) ≡ first_price (least_prices (edges_of (sparing_plain t r)) (units_of r w) first_layer)
same_first t k r format w =
    let g : Spelling = sparing_plain t r in
    first_least (edges_by format t (edges_of g)) (units_of r w) ∙ same_least g k format (units_of r w) (trees_have_values r w) first_state ∙ sym (first_least (edges_of g) (units_of r w))

-- the first way through the units of a tree
pub same_text : (t : List Entry) → IsTable t → (r : SpellRules) (format : Format) (w : List Event)
    → first_way (edges_by format t (edges_of (sparing_plain t r))) (units_of r w) first_state ≡ first_way (edges_of (sparing_plain t r)) (units_of r w) first_state
same_text t k r Full w = refl
same_text t k r Compact w = refl
same_text t k r Sparse w =
    let g : Spelling = sparing_plain t r in
    let (b, way) = trees_have_ways g (spares_plain t k r) w in
    let (n, is, le) = least_number (edges_of g) (units_of r w) first_state b way in
    (needless (dominance t) (edges_of g) (dominance_loses_nothing g k)).1.0 (units_of r w) (trees_have_values r w) first_state n is

-- prices that keep the rules show that no spelling has fewer bytes than the first of them
pub prices_show : (t : List Entry) → IsTable t → (r : SpellRules) (format : Format) (w : List Event) → Settled w → (prices : List Row) (n : ℕ)
    → Feasible (edges_by format t (edges_of (sparing_plain t r))) (units_of r w) prices → first_price prices ≡ Some n → Shortest t r w n
prices_show t k r Full w s prices n feasible price = feasible_prices_show t k r w s prices n feasible price
prices_show t k r Compact w s prices n feasible price = feasible_prices_show t k r w s prices n feasible price
prices_show t k r Sparse w s prices n feasible price = sparse_prices_show t k r w s prices n feasible price
