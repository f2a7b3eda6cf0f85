use Rattle.std.proofs.Common.{IfSome, ◌∙◌, refl, subst}
use Rattle.hm_check.specs.Sweeps.{IsStillOver}
use Rattle.hm_check.proofs.Within.{judged_still}
use Rattle.hm_check.proofs.sweep.judge_over.Goals as goal

pub returns-then-are_within : goal.returns-then-are_within
returns-then-are_within c =
    let still : IsStillOver c.args.step.now c.in-Some.len = subst (λ o. IfSome o (IsStillOver c.args.step.now)) c.in-Some.is c.requires.still in
    judged_still c.args.found.now c.args.k c.in-Some.len c.args.row.now c.args.next_row.now c.args.step.now c.if-found.true (c.if-row-width.true ∙ c.width.ensures) c.if-next_row-row.true still.0 (c.if-are_within.ensures c.args.k refl)
