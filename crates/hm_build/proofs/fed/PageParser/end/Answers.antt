use Rattle.std.proofs.Common.{◌≡◌, sym, subst, ◌∙◌}
use Rattle.std.proofs.lemmas.Result.{IfErr-weaker, IfOk-weaker}
use Rattle.hm_construction_laws.specs.Trees.{built}
use Rattle.hm_decoder.specs.Pieces.{before_text}
use Rattle.hm_build.specs.Feeding.{Feeding, HasCome, page_outcome_within}
use Rattle.hm_build.specs.Parsing.{IsRefusedAs}
use Rattle.hm_build.proofs.Room.{within_further}
use Rattle.hm_build.proofs.Whole.{ends_refused, ends_sound, none_of_both, refused_same, settled_within}
use Rattle.hm_build.proofs.fed.PageParser.end.Goals as goal

pub build_rest-requires : goal.build_rest-requires
build_rest-requires c =
    within_further (before_text c.self.inside.text.source) (before_text c.take_end.new.text.source) c.self.inside.tree.walk c.self.inside.tree.state c.in-Ok.ensures.before
    (c.self.invariant.within c.in-Ok.ensures.sound (none_of_both c.take_end.new.text.fault c.self.inside.refused c.in-Ok.ensures.none).1)

pub returns-in-Ok-clause-built : goal.returns-in-Ok-clause-built
returns-in-Ok-clause-built c =
    IfOk-weaker c.build_rest.result _ _
    (λ tree e page h. subst (λ (f : Feeding). page_outcome_within f.pieces.limit f.names page ≡ built tree) c.self.view_is
    (ends_sound _ c.take_end.new.text page (subst (λ f. HasCome f page) (sym c.self.view_is) h) c.take_end.ensures.limit c.in-Ok.ensures.page c.in-Ok.ensures.none ∙ e))
    c.build_rest.ensures.built

pub returns-in-Ok-clause-settled : goal.returns-in-Ok-clause-settled
returns-in-Ok-clause-settled c =
    IfOk-weaker c.build_rest.result _ _
    (λ tree e page h. settled_within c.self.inside.text.limit c.self.inside.table.now.entries page tree c.every_table.ensures.names
    (ends_sound _ c.take_end.new.text page (subst (λ f. HasCome f page) (sym c.self.view_is) h) c.take_end.ensures.limit c.in-Ok.ensures.page c.in-Ok.ensures.none ∙ e))
    c.build_rest.ensures.built

pub returns-in-Ok-clause-refused : goal.returns-in-Ok-clause-refused
returns-in-Ok-clause-refused c =
    IfErr-weaker c.build_rest.result _ _
    (λ refused e page h. subst (λ (f : Feeding). IsRefusedAs (page_outcome_within f.pieces.limit f.names page) refused) c.self.view_is
    (refused_same _ _ refused (ends_sound _ c.take_end.new.text page (subst (λ f. HasCome f page) (sym c.self.view_is) h) c.take_end.ensures.limit c.in-Ok.ensures.page c.in-Ok.ensures.none) e))
    c.build_rest.ensures.refused

pub returns-in-Err-clause-refused : goal.returns-in-Err-clause-refused
returns-in-Err-clause-refused c = λ page h.
    subst (λ (f : Feeding). IsRefusedAs (page_outcome_within f.pieces.limit f.names page) c.in-Err.refused) c.self.view_is
    (ends_refused _ c.take_end.new.text page c.in-Err.refused (subst (λ f. HasCome f page) (sym c.self.view_is) h) c.take_end.ensures.limit c.in-Err.ensures.err)
