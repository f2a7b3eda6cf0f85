use Rattle.hm_graph_laws.proofs.EdgeCounts.{states_have_few_edges}
use Rattle.hm_graph_laws.proofs.edges.states_have_few_edges.Goals as goal

pub returns : goal.returns
returns c = states_have_few_edges
