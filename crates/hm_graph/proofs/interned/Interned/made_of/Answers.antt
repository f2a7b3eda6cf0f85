use Rattle.hm_graph.proofs.Lists.{grows_self}
use Rattle.hm_graph.proofs.interned.Interned.made_of.Goals as goal

pub returns-in-Some-clause-kept : goal.returns-in-Some-clause-kept
returns-in-Some-clause-kept c = grows_self c.args.self.now
