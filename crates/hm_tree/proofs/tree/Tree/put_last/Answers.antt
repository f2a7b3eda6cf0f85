use Rattle.hm_tree.proofs.MovedLemmas.{IsMade-put_last}
use Rattle.hm_tree.proofs.tree.Tree.put_last.Goals as goal

pub invariant_of-self : goal.invariant_of-self
invariant_of-self c = IsMade-put_last _ _ c.args.i c.args.at c.put_last.ensures c.self.invariant
