use Rattle.std.proofs.Common.{arith, sym, ◌∙◌}
use Rattle.hm_location.proofs.LineLaws.{first_line, next_line, same_line}
use Rattle.hm_location.proofs.place.line_start.Goals as goal
use Rattle.hm_location.proofs.place.line_start.Goals.{then-ends_line, else-ends_line}

pub overflow_add-number : goal.overflow_add-number
overflow_add-number c = omega (arith, c.loop-index.invariant.few)

pub loop-index-init : goal.loop-index-init
loop-index-init c = first_line _

pub loop-index-preserved : goal.loop-index-preserved
loop-index-preserved c =
    elim c.if-ends_line.branch [
      | then-ends_line w ↦ rw (w.number-is, w.begin-is) (next_line _ _ _ _ (omega arith) (sym c.ends_line.ensures ∙ w.if-ends_line.true) c.loop-index.invariant)
      | else-ends_line w ↦ rw (w.number-is, w.begin-is) (same_line _ _ _ _ (omega arith) (sym c.ends_line.ensures ∙ w.if-ends_line.false) c.loop-index.invariant)
    ]
