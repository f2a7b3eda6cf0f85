use Rattle.hm_graph.proofs.Joined.{kept_joined}
use Rattle.hm_graph.proofs.laws.kept_rows_are_joined.Goals as goal

pub returns : goal.returns
returns c = kept_joined
