use Rattle.hm_graph.proofs.laws.way_is_first.Goals as goal
use Rattle.hm_graph.proofs.FirstWays.{way_first}

pub returns : goal.returns
returns c = way_first
