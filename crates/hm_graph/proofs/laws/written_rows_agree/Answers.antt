use Rattle.hm_graph.proofs.laws.written_rows_agree.Goals as goal
use Rattle.hm_graph.proofs.Written.{written_agrees}

pub returns : goal.returns
returns c = written_agrees
