use Rattle.hm_options.proofs.InOrder.{in_order, rewrite_settled}
use Rattle.hm_options.proofs.top.rewrite.Goals as goal

pub returns : goal.returns
returns c =
    let is = in_order c.args.options.now c.args.tree c.in_ok-tree.tree c.in_ok-tree-2.tree c.in_ok-tree.ensures c.in_ok-tree-2.ensures in
    record { ok = is; settled = λ h. rw is (rewrite_settled c.args.options.now c.args.tree h) }
