use Rattle.hm_graph.proofs.laws.full_rows_agree.Goals as goal
use Rattle.hm_graph.proofs.Written.{full_agrees}

pub returns : goal.returns
returns c = full_agrees
