use Rattle.std.proofs.Common.{◌≡◌}
use Rattle.hm_options.specs.Passing.{with_passed}
use Rattle.hm_options.proofs.attributes.change_attributes.Given as goal

abbrev pub invariant-loop-at : goal.invariant-loop-at
invariant-loop-at l = (l.editor.done ≡ l.fn.editor.done) × (l.editor.left ≡ with_passed l.options l.at l.fn.editor.left)
