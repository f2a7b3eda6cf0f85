use Rattle.hm_graph_laws.proofs.Closing.{closing_law}
use Rattle.hm_graph_laws.proofs.pending.closings_tell.Goals as goal

pub returns : goal.returns
returns c = closing_law
