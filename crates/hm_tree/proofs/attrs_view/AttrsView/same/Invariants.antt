use Rattle.std.proofs.Common.{◌≡◌, take}
use Rattle.hm_tree.specs.Views.{attributes_shown}
use Rattle.hm_tree.proofs.attrs_view.AttrsView.same.Given as goal

abbrev pub invariant-loop-i : goal.invariant-loop-i
invariant-loop-i l = take l.i (attributes_shown l.self) ≡ take l.i (attributes_shown l.other)
