use Rattle.std.proofs.Common.{◌∙◌, ap, get_or}
use Rattle.std.proofs.Math.ListN.{replicate}
use Rattle.hm_graph.specs.Interned.{unknown}
use Rattle.hm_graph.specs.declared.plain.PlainRow.{PlainRow}
use Rattle.hm_graph.proofs.PlainRows.{none_known, unknown_row}
use Rattle.hm_graph.proofs.plain.PlainRow.of.Goals as goal

pub returns-clause-row : goal.returns-clause-row
returns-clause-row c = λ m more.
    let row : PlainRow = record { list = c.args.list; kind = c.args.kind; steps = c.in_ok-vec.field-0 } in
    unknown_row m more row (λ k. ap (λ xs. get_or xs k unknown) (c.in_ok-vec.ensures.items_if_clones_equal (λ y e. e) ∙ ap (replicate 256) c.no_step.ensures) ∙ none_known 256 k)
