-- Prices that keep the rules without the edges that are dominated (outdone) show that no spelling is shorter.
use Rattle.std.proofs.Common.{arith}
use Rattle.hm_graph_laws.specs.UnitEdges.{edges_of}
use Rattle.hm_optimality_laws.proofs.Dominance.{dominance_loses_nothing}
use Rattle.hm_optimality_laws.proofs.Least.{needless}
use Rattle.hm_optimality_laws.proofs.Values.{trees_have_values}
use Rattle.hm_optimality_laws.specs.Dominated.{dominance}
use Rattle.hm_optimality_laws.specs.SparseLaws.{SparsePricesShow}
use Rattle.hm_spelling_spec.specs.Tags.{Spelling}
use Rattle.hm_graph_laws.specs.Units.{units_of}
use Rattle.hm_optimality_laws.proofs.Best.{spellings_have_graph_ways}
use Rattle.hm_graph_laws.specs.ExchangeLaws.{sparing_plain}

pub sparse_prices_show : SparsePricesShow
sparse_prices_show t k r w s prices n feasible price b spells =
    let g : Spelling = sparing_plain t r in
    let f = spellings_have_graph_ways t k r w s b spells in
    let bound = (needless (dominance t) (edges_of g) (dominance_loses_nothing g k)).1.1 (units_of r w) (trees_have_values r w) prices n f.bytes feasible price f.way in
    omega (arith, bound, f.short)
