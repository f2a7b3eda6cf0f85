use Rattle.hm_optimality_laws.proofs.Values.{trees_have_values}
use Rattle.hm_optimality_laws.proofs.sparse.trees_have_values.Goals as goal

pub returns : goal.returns
returns c = trees_have_values
