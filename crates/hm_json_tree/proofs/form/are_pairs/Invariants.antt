use Rattle.std.proofs.Common.{◌≡◌, drop, is_some}
use Rattle.serde_json.specs.View.{items_view}
use Rattle.hm_json_tree.specs.Reading.{attributes_in}
use Rattle.hm_json_tree.proofs.form.are_pairs.Given as goal

abbrev pub invariant-loop-item : goal.invariant-loop-item
invariant-loop-item l = is_some (attributes_in (items_view (drop l.item-index l.items))) ≡ is_some (attributes_in (items_view l.items))
