use Rattle.hm_optimality_laws.proofs.Dominance.{dominance_loses_nothing}
use Rattle.hm_optimality_laws.proofs.sparse.dominance_loses_nothing.Goals as goal

pub returns : goal.returns
returns c = dominance_loses_nothing
