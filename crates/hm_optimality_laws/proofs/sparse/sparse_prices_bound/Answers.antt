use Rattle.hm_graph_laws.specs.UnitEdges.{edges_of}
use Rattle.hm_optimality_laws.proofs.Dominance.{dominance_loses_nothing}
use Rattle.hm_optimality_laws.proofs.Least.{needless}
use Rattle.hm_optimality_laws.specs.Dominated.{dominance}
use Rattle.hm_optimality_laws.proofs.sparse.sparse_prices_bound.Goals as goal

pub returns : goal.returns
returns c = λ g k. (needless (dominance g.table) (edges_of g) (dominance_loses_nothing g k)).1.1
