use Rattle.std.proofs.Common.{◌≡◌, ◌≤◌, length, take}
use Rattle.hm_elements.specs.Paths.{rest_after, is_closed_by_start_of}
use Rattle.hm_open_elements.specs.Elements.{path_of}
use Rattle.hm_open_elements.proofs.plan.left_by_start.Given as goal

abbrev pub invariant-loop-left : goal.invariant-loop-left
invariant-loop-left l =
    (2 ≤ l.left) × (l.left ≤ length l.elements) × (rest_after (is_closed_by_start_of l.tag.name.now) (path_of (take l.left l.elements)) ≡ rest_after (is_closed_by_start_of l.tag.name.now) (path_of l.elements))

abbrev pub decreases-loop-left : goal.decreases-loop-left
decreases-loop-left l = l.left
