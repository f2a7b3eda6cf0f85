use Rattle.std.proofs.Common.{ap, sym, ◌∙◌, is_some}
use Rattle.hm_json_tree.proofs.Items.{no_attributes, none_mapped}
use Rattle.hm_json_tree.proofs.form.are_pairs.Goals as goal

pub returns-then-is_none : goal.returns-then-is_none
returns-then-is_none c = sym (ap is_some (no_attributes c.args.items.now c.loop-item.item-index c.item-item.result c.item-item.is c.loop-item-test.true (none_mapped _ c.as_pair.result _ c.as_pair.ensures c.if-is_none.ensures))) ∙ c.loop-item.invariant
