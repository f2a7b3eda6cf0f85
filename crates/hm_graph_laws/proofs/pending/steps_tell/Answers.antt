use Rattle.hm_graph_laws.proofs.Steps.{passes_law}
use Rattle.hm_graph_laws.proofs.pending.steps_tell.Goals as goal

pub returns : goal.returns
returns c = passes_law
