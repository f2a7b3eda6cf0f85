use Rattle.hm_graph_laws.proofs.prices.written_prices_are_whole.Goals as goal
use Rattle.hm_graph_laws.specs.Layers.{first_layer}
use Rattle.hm_graph_laws.proofs.WrittenRows.{full_is_least}

pub returns : goal.returns
returns c = λ edges follows units. full_is_least edges follows 0 units first_layer
