use Rattle.std.proofs.Common.{⊎_elim, ap, ◌∙◌, ◌++◌, ◌∷◌, [], false}
use Rattle.hm_base.specs.Walks.{start}
use Rattle.hm_elements.specs.Names.{head}
use Rattle.hm_insertion.proofs.BeforeBody.{html_room, head_done_first, head_done_next}
use Rattle.hm_insertion.proofs.parts.Parts.open_head.Goals as goal

pub open_missing_html-requires : goal.open_missing_html-requires
open_missing_html-requires c = html_room c.args.self.now c.args.attrs.now c.in-BeforeHtml.is c.requires.room

pub returns-in_ok-start_from-in-BeforeHtml : goal.returns-in_ok-start_from-in-BeforeHtml
returns-in_ok-start_from-in-BeforeHtml c =
    let p = c.args.self.now in
    let is = c.in_ok-start_from-in-BeforeHtml.ensures.ok ∙ ap (λ w. w ++ start head false c.args.attrs.now ∷ []) c.in_ok-open_missing_html-in-BeforeHtml.ensures in
    ⊎_elim (λ e. head_done_first p c.args.attrs.now c.start_from.new.self c.requires.kept e is) (λ e. head_done_next p c.args.attrs.now c.start_from.new.self c.requires.kept e is) c.in-BeforeHtml.is
