use Rattle.hm_graph_laws.proofs.Closing.{markup_law}
use Rattle.hm_graph_laws.proofs.pending.markup_tells.Goals as goal

pub returns : goal.returns
returns c = markup_law
