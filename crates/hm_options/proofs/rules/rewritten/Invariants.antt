use Rattle.std.proofs.Common.{◌≤◌, ◌-◌, length}
use Rattle.hm_options.proofs.Passing.{IsPassed}
use Rattle.hm_options.proofs.rules.rewritten.Given as goal

abbrev pub invariant-loop : goal.invariant-loop
invariant-loop l = IsPassed l.options l.fn.tree l.editor × (length l.editor.left ≤ l.end - l.counter)
