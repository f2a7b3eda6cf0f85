use Rattle.hm_graph.proofs.Joined.{ways_joined}
use Rattle.hm_graph.proofs.laws.ways_are_joined.Goals as goal

pub returns : goal.returns
returns c = ways_joined
