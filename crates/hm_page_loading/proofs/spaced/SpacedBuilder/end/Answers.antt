use Rattle.std.proofs.Common.{◌≡◌, sym, subst}
use Rattle.std.proofs.lemmas.Result.{IfErr-weaker, IfOk-weaker}
use Rattle.hm_build.specs.Trees.{built}
use Rattle.hm_build.specs.Feeding.{page_outcome_within}
use Rattle.hm_build.specs.Parsing.{IsRefusedAs}
use Rattle.hm_page_loading.specs.Spacing.{HasTaken, Spaced}
use Rattle.hm_page_loading.proofs.spaced.SpacedBuilder.end.Goals as goal

pub returns-clause-built : goal.returns-clause-built
returns-clause-built c = IfOk-weaker c.end.result _ _
    (λ tree said page h. subst (λ (x : Spaced). page_outcome_within x.feeding.pieces.limit x.feeding.names page ≡ built tree) c.self.view_is (said page (subst (λ x. HasTaken x page) (sym c.self.view_is) h).come)) c.end.ensures.built

pub returns-clause-settled : goal.returns-clause-settled
returns-clause-settled c = IfOk-weaker c.end.result _ _ (λ tree said page h. said page (subst (λ x. HasTaken x page) (sym c.self.view_is) h).come) c.end.ensures.settled

pub returns-clause-refused : goal.returns-clause-refused
returns-clause-refused c = IfErr-weaker c.end.result _ _
    (λ refused said page h. subst (λ (x : Spaced). IsRefusedAs (page_outcome_within x.feeding.pieces.limit x.feeding.names page) refused) c.self.view_is (said page (subst (λ x. HasTaken x page) (sym c.self.view_is) h).come)) c.end.ensures.refused
