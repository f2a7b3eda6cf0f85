use Rattle.std.proofs.Common.{◌≡◌, ◌≤◌, length, take}
use Rattle.hm_elements.specs.Paths as paths
use Rattle.hm_open_elements.specs.Elements.{path_of}
use Rattle.hm_open_elements.proofs.plan.is_open.Given as goal

abbrev pub invariant-loop-left : goal.invariant-loop-left
invariant-loop-left l =
    (l.left ≤ length l.elements) × (paths.is_open l.name (path_of (take l.left l.elements)) ≡ paths.is_open l.name (path_of l.elements))

abbrev pub decreases-loop-left : goal.decreases-loop-left
decreases-loop-left l = l.left
