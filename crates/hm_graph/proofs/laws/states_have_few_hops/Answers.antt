use Rattle.hm_graph.proofs.FewHops.{states_have_few_hops}
use Rattle.hm_graph.proofs.laws.states_have_few_hops.Goals as goal

pub returns : goal.returns
returns c = states_have_few_hops
