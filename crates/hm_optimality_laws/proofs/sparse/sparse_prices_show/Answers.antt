use Rattle.hm_optimality_laws.proofs.Shown.{sparse_prices_show}
use Rattle.hm_optimality_laws.proofs.sparse.sparse_prices_show.Goals as goal

pub returns : goal.returns
returns c = sparse_prices_show
