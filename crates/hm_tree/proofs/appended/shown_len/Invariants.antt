use Rattle.std.proofs.Common.{◌≡◌, ◌+◌, drop}
use Rattle.hm_base.specs.Walks.{attributes_size}
use Rattle.hm_tree.specs.Views.{attributes_shown}
use Rattle.hm_tree.proofs.appended.shown_len.Given as goal

abbrev pub invariant-loop-i : goal.invariant-loop-i
invariant-loop-i l = l.len + attributes_size (drop l.i (attributes_shown l.attrs)) ≡ attributes_size (attributes_shown l.attrs)
