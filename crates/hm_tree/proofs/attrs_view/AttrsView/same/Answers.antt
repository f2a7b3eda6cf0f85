use Rattle.std.proofs.Common.{◌≡◌}
use Rattle.hm_tree.proofs.ListLemmas.{take_more_alike, same_from_ne}
use Rattle.hm_tree.specs.Views.{attributes_shown}
use Rattle.hm_tree.proofs.attrs_view.AttrsView.same.Goals as goal

pub loop-i-preserved : goal.loop-i-preserved
loop-i-preserved c =
    let name : c.at.result.0.now ≡ c.at-in-loop-i.result.0.now = same_from_ne c.at.result.0.now c.at-in-loop-i.result.0.now c.ne.result c.ne.ensures c.if-ne.false in
    let value : c.at.result.1.now ≡ c.at-in-loop-i.result.1.now = same_from_ne c.at.result.1.now c.at-in-loop-i.result.1.now c.ne-else-ne.result c.ne-else-ne.ensures c.if-ne-2.false in
    take_more_alike (attributes_shown c.args.self.now) (attributes_shown c.args.other.now) c.loop-i.i (record { name = c.at.result.0.now; value = c.at.result.1.now }) c.loop-i.invariant c.at.ensures (rw (name, value) c.at-in-loop-i.ensures)
