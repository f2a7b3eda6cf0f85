use Rattle.std.proofs.Common.{◌∙◌, ap, arith, get_or, subst, take}
use Rattle.std.specs.List.{All}
use Rattle.hm_graph.specs.Interned.{IsToward, unknown}
use Rattle.hm_graph.proofs.PlainRows.{first_leads, toward_leads}
use Rattle.hm_graph.proofs.plain.PlainRow.alike.Goals as goal

pub returns-then-to-self-clause-leads : goal.returns-then-to-self-clause-leads
returns-then-to-self-clause-leads c = λ m more row.
    let text = c.args.text.now in
    first_leads m more c.args.self.now c.step_at-to.result text row (c.is_known.ensures c.if-not-is_known.false) (c.step_at-to.ensures ∙ ap (λ xs. get_or xs (get_or text 0 0) unknown) c.as_slice.ensures.value) (omega arith)

pub returns-clause-leads : goal.returns-clause-leads
returns-clause-leads c = λ m more row.
    let text = c.args.text.now in
    let to = c.step_at-to.result in
    let count = c.alike_run-count.result in
    toward_leads m more c.args.self.now to (get_or text 0 0) (take count text) row (c.is_known.ensures c.if-not-is_known.false) (c.step_at-to.ensures ∙ ap (λ xs. get_or xs (get_or text 0 0) unknown) c.as_slice.ensures.value)
    (subst (λ xs. All (IsToward xs to) (take count text)) c.as_slice-2.ensures.value c.alike_run-count.ensures.toward)
