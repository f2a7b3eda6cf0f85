use Rattle.hm_check.proofs.Checking.{difference_is}
use Rattle.hm_check.proofs.trees.first_difference.Goals as goal

pub returns : goal.returns
returns c = difference_is c.args.tree.now c.args.wanted.now c.first_other.result c.first_other.ensures
