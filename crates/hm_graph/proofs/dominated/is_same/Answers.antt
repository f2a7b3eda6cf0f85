use Rattle.hm_graph.proofs.KeptEdges.{means_same}
use Rattle.hm_graph.proofs.dominated.is_same.Goals as goal

pub returns : goal.returns
returns c = λ v own has. means_same v c.args.one.now c.args.other.now c.is_state.result own has c.is_state.ensures.0 c.is_state.ensures.1
