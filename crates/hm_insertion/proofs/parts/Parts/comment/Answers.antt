use Rattle.std.proofs.Common.{[], ◌∷◌, ◌++◌, ap, ◌∙◌}
use Rattle.hm_base.specs.Walks.{comment}
use Rattle.hm_insertion.proofs.PlainTexts.{fits_by}
use Rattle.hm_insertion.proofs.Others.{comment_went, comment_done, kept_after_body, kept_after_html}
use Rattle.hm_insertion.proofs.parts.Parts.comment.Goals as goal

pub comment-requires : goal.comment-requires
comment-requires c = fits_by _ (comment c.args.text.now ∷ []) _ c.args.self.now.maker (comment_went c.args.self.now c.args.text.now c.in_default.not-AfterBody c.in_default.not-AfterHtml) c.requires.room

pub returns-in_ok-push-in-AfterBody : goal.returns-in_ok-push-in-AfterBody
returns-in_ok-push-in-AfterBody c =
    kept_after_body c.args.self.now c.args.text.now c.push.new.self c.in-AfterBody.is c.requires.kept
    (c.in_ok-push-in-AfterBody.ensures.items ∙ ap (λ x. c.args.self.now.comments_after_body.items ++ x ∷ []) c.in_ok-kept_word-in-AfterBody.ensures)

pub returns-in_ok-push-in-AfterHtml : goal.returns-in_ok-push-in-AfterHtml
returns-in_ok-push-in-AfterHtml c =
    kept_after_html c.args.self.now c.args.text.now c.push-in-AfterHtml.new.self c.in-AfterHtml.is c.requires.kept
    (c.in_ok-push-in-AfterHtml.ensures.items ∙ ap (λ x. c.args.self.now.comments_after_html.items ++ x ∷ []) c.in_ok-kept_word-in-AfterHtml.ensures)

pub returns-in_ok-comment-in_default : goal.returns-in_ok-comment-in_default
returns-in_ok-comment-in_default c =
    comment_done c.args.self.now c.args.text.now c.comment.new.self c.in_default.not-AfterBody c.in_default.not-AfterHtml c.requires.kept c.in_ok-comment-in_default.ensures.ok
