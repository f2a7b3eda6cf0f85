use Rattle.hm_graph.proofs.laws.rows_are_least.Goals as goal
use Rattle.hm_graph.proofs.Rows.{rows_least}

pub returns : goal.returns
returns c = rows_least
