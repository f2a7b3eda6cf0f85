use Rattle.hm_graph_laws.proofs.prices.feasible_prices_bound.Goals as goal
use Rattle.hm_graph_laws.proofs.LeastPrices.{first_bounds}

pub returns : goal.returns
returns c = λ edges units prices n b f e w. first_bounds edges units prices n b f e w
