use Rattle.std.proofs.Common.{◌≡◌, [], ◌∷◌, ◌++◌, length, ap, ◌∙◌, arith}
use Rattle.hm_base.specs.Walks.{path_after}
use Rattle.hm_options.proofs.Collapsed.{collapsed_settled}
use Rattle.hm_options.proofs.Steps.{IsCollapsing-more, collapsing_begins, collapsing_ends, end_matches, few_kept, left_some, no_more}
use Rattle.hm_tree.specs.Edits.{without_first}
use Rattle.hm_tree.specs.Trees.{IsWalk}
use Rattle.hm_tree.specs.Views.{event_of}
use Rattle.hm_options.proofs.walk.collapse.Goals as goal

pub loop-init : goal.loop-init
loop-init c = (collapsing_begins c.args.conservative c.args.tree c.edit-editor.result c.edit-editor.ensures, omega (arith, c.left-end.ensures.left))

pub kept_after-after-requires : goal.kept_after-after-requires
kept_after-after-requires c = few_kept c.loop.editor.done c.loop.editor.left c.loop.kept c.left.ensures.walk c.loop.invariant.0.known

pub loop-preserved : goal.loop-preserved
loop-preserved c =
    let old = c.loop.editor in
    let e = event_of c.next.result in
    let l = without_first old.left in
    let is : old.left ≡ e ∷ l = left_some old.left e c.next.ensures in
    let walk : IsWalk (old.done ++ e ∷ l) = rw is at c.left.ensures.walk in
    let counts = c.kept_after-after.ensures (path_after [] old.done) (end_matches old.done e l walk) c.loop.invariant.0.known in
    let step = c.in_ok-edit_next.ensures in (
      IsCollapsing-more c.args.conservative c.args.tree old c.edit_next.new.editor c.loop.kept c.kept_after-after.result c.loop.invariant.0 step e l is c.left.ensures.walk counts,
      omega (arith, ap length is, ap length (step e l is).0, c.loop.invariant.1),
    )

pub returns-clause-settled : goal.returns-clause-settled
returns-clause-settled c = λ h.
    let none = no_more c.loop.editor.left (omega (arith, c.loop.invariant.1, c.loop-test.false)) in
    let is = c.finish.ensures ∙ collapsing_ends c.args.conservative c.args.tree c.loop.editor c.loop.kept none c.loop.invariant.0 in
    rw is (collapsed_settled c.args.conservative c.args.tree h)
