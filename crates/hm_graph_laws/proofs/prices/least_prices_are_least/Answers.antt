use Rattle.hm_graph_laws.proofs.prices.least_prices_are_least.Goals as goal
use Rattle.hm_graph_laws.specs.Layers.{first_layer}
use Rattle.hm_graph_laws.proofs.LeastPrices.{first_least, least_feasible, least_number, least_reached}

pub returns-clause-feasible : goal.returns-clause-feasible
returns-clause-feasible c = λ edges units. least_feasible edges units first_layer

pub returns-clause-first : goal.returns-clause-first
returns-clause-first c = first_least

pub returns-clause-bound : goal.returns-clause-bound
returns-clause-bound c = least_number

pub returns-clause-reached : goal.returns-clause-reached
returns-clause-reached c = least_reached
