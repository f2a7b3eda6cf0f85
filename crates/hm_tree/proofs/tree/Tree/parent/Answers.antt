use Rattle.hm_tree.proofs.OpenLemmas.{parent_of-IsStartAt}
use Rattle.hm_tree.proofs.tree.Tree.parent.Goals as goal

pub returns-clause-element : goal.returns-clause-element
returns-clause-element c = rw (c.parent.ensures, c.self.view_is) (parent_of-IsStartAt c.args.self.now c.args.i)
