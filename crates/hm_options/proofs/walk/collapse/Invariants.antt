use Rattle.std.proofs.Common.{◌≡◌, ◌+◌, length}
use Rattle.hm_options.proofs.Steps.{IsCollapsing}
use Rattle.hm_options.proofs.walk.collapse.Given as goal

abbrev pub invariant-loop : goal.invariant-loop
invariant-loop l = IsCollapsing l.conservative l.fn.tree l.editor l.kept × (length l.editor.left + l.counter ≡ l.end)
