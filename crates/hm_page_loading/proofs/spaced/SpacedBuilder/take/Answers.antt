use Rattle.std.proofs.Common.{◌++◌, refl, sym, subst}
use Rattle.hm_build.specs.Feeding.{HasRead}
use Rattle.hm_page_loading.specs.Spacing.{HasTaken}
use Rattle.hm_page_loading.proofs.Taking.{gathered, scanned_all}
use Rattle.hm_page_loading.proofs.spaced.SpacedBuilder.take.Goals as goal

pub returns-then-piece-left-clause-taken : goal.returns-then-piece-left-clause-taken
returns-then-piece-left-clause-taken c = λ taken h.
    gathered _ _ c.args.piece.now c.in_ok-gather.ensures.come c.gather.ensures.building c.gather.ensures.refused c.gather.ensures.names c.gather.ensures.limit refl refl taken (subst (λ s. HasTaken s taken) (sym c.self.view_is) h)

pub returns-clause-taken : goal.returns-clause-taken
returns-clause-taken c = λ taken h.
    let before = subst (λ s. HasTaken s taken) (sym c.self.view_is) h in
    let read : HasRead c.scan.new.self (taken ++ c.args.piece.now) = c.in_ok-scan.ensures.read (taken ++ c.args.piece.now) (c.in_ok-gather.ensures.come taken before.come) in
    scanned_all _ (taken ++ c.args.piece.now) read refl (c.kept-self-inside.ensures (taken ++ c.args.piece.now) read)
