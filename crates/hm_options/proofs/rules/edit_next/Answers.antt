use Rattle.std.proofs.Common.{◌≡◌, true, sym, ap, ◌∙◌}
use Rattle.hm_base.specs.Walks.{begins_comment}
use Rattle.hm_options.proofs.Passing.{calm_before, changed_and_kept, comment_first, comment_left_out}
use Rattle.hm_tree.specs.Edits.{kept}
use Rattle.hm_tree.specs.Views.{event_of}
use Rattle.hm_options.proofs.rules.edit_next.Goals as goal

pub returns-then-is_comment : goal.returns-then-is_comment
returns-then-is_comment c =
    let old = c.args.editor.now in
    let begins : begins_comment old.left ≡ true = comment_first old.left (event_of c.next.result) c.next.ensures ∙ sym c.is_comment.ensures ∙ c.if-is_comment.true in
    comment_left_out c.args.options.now old c.leave_out_comment.new.self c.if-options.true begins (calm_before c.args.options.now old c.requires.calm c.if-options.true begins) c.leave_out_comment.ensures

pub returns : goal.returns
returns c =
    let old = c.args.editor.now in
    changed_and_kept c.args.options.now old.done old.left c.change_next.new.editor.left c.keep.new.self c.in_ok-change_next.ensures.left (c.keep.ensures ∙ ap (λ v. kept v c.change_next.new.editor.left) c.in_ok-change_next.ensures.done)
