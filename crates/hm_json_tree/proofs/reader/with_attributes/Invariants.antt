use Rattle.std.proofs.Common.{◌≡◌, ◌+◌, ◌^◌, ◌<◌, take}
use Rattle.hm_base.specs.Walks.{attributes_size}
use Rattle.hm_json_tree.proofs.reader.with_attributes.Given as goal

abbrev pub invariant-loop-i : goal.invariant-loop-i
invariant-loop-i l = (l.sum ≡ l.bytes + attributes_size (take l.i l.attrs)) × (l.sum < 2 ^ 29)
