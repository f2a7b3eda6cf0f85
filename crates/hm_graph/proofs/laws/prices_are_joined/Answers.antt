use Rattle.hm_graph.proofs.Joined.{prices_joined}
use Rattle.hm_graph.proofs.laws.prices_are_joined.Goals as goal

pub returns : goal.returns
returns c = prices_joined
