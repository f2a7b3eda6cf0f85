use Rattle.hm_graph.proofs.Ways.{ways_are_ways}
use Rattle.hm_graph.proofs.laws.ways_are_ways.Goals as goal

pub returns : goal.returns
returns c = ways_are_ways
