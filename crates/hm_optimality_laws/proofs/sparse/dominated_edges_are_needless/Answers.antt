use Rattle.hm_optimality_laws.proofs.Least.{needless}
use Rattle.hm_optimality_laws.proofs.sparse.dominated_edges_are_needless.Goals as goal

pub returns : goal.returns
returns c = needless
