use Rattle.std.proofs.Common.{◌∙◌, IfSome, sym, subst}
use Rattle.hm_edges.specs.States.{state_of, where_of}
use Rattle.hm_graph.specs.Forms.{IsChange, IsFew}
use Rattle.hm_graph.proofs.FormChanges.{changes_by, changes_nothing, few_bytes}
use Rattle.hm_graph.proofs.forms.change_of.Goals as goal

pub returns-then-has_nothing-2-clause-change : goal.returns-then-has_nothing-2-clause-change
returns-then-has_nothing-2-clause-change c = λ v u stands.
    subst (IsChange v.entries u (state_of v c.args.from.now) (state_of v c.args.to.now)) (sym c.change_of_form.ensures)
    (changes_by v.entries u c.in_ok-needs.needs (state_of v c.args.from.now) (state_of v c.args.to.now) (c.in_ok-needs.ensures v.entries u stands) (sym (c.has_nothing.ensures v) ∙ c.if-has_nothing.true)
    (sym (c.has_nothing-then-has_nothing.ensures v) ∙ c.if-has_nothing-2.true))

pub returns-then-has_nothing-2-clause-few : goal.returns-then-has_nothing-2-clause-few
returns-then-has_nothing-2-clause-few c = subst (λ x. IfSome x IsFew) (sym c.change_of_form.ensures) (few_bytes c.in_ok-needs.needs (where_of c.args.from.now.at) (where_of c.args.to.now.at))

pub returns-in_err-needs-clause-change : goal.returns-in_err-needs-clause-change
returns-in_err-needs-clause-change c = λ v u stands.
    subst (IsChange v.entries u (state_of v c.args.from.now) (state_of v c.args.to.now)) (sym c.from_residual.ensures) (changes_nothing v.entries u (state_of v c.args.from.now) (state_of v c.args.to.now) (c.in_err-needs.ensures v.entries u stands))
