use Rattle.hm_graph.proofs.Joined.{written_kept}
use Rattle.hm_graph.proofs.laws.written_are_kept.Goals as goal

pub returns : goal.returns
returns c = written_kept
