use Rattle.hm_refs.proofs.FirstsLaws.{closed_last}
use Rattle.hm_graph.proofs.told.is_closed.Goals as goal

pub returns-in-len1-up : goal.returns-in-len1-up
returns-in-len1-up c = closed_last c.args.name.now c.in-len1-up.len_at_least
