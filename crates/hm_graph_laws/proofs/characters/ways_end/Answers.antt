use Rattle.hm_graph_laws.proofs.Ends.{ways_end}
use Rattle.hm_graph_laws.proofs.characters.ways_end.Goals as goal

pub returns : goal.returns
returns c = ways_end
