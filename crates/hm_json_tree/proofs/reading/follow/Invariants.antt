use Rattle.std.proofs.Common.{◌≡◌, List, length}
use Rattle.hm_base.specs.Walks.{Element}
use Rattle.hm_json_tree.specs.Progress.{Follows}
use Rattle.hm_json_tree.proofs.reading.follow.Given as goal

abbrev pub invariant-loop-i : goal.invariant-loop-i
invariant-loop-i l = (path : List Element) → length path ≡ l.opened → Follows l.items l.from path l.i l.depth
