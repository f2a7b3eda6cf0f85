use Rattle.hm_optimality_laws.proofs.Best.{feasible_prices_show}
use Rattle.hm_optimality_laws.proofs.spellings.feasible_prices_show.Goals as goal

pub returns : goal.returns
returns c = feasible_prices_show
