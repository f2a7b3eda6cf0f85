use Rattle.std.proofs.Common.{◌≡◌, ◌+◌, drop}
use Rattle.hm_options.specs.Passing.{loose_count}
use Rattle.hm_options.proofs.joining.loose_after.Given as goal
use Rattle.hm_tree.specs.Edits.{without_first}

abbrev pub invariant-loop-count : goal.invariant-loop-count
invariant-loop-count l = loose_count (without_first l.editor.left) + 1 ≡ l.count + loose_count (drop l.count l.editor.left)
