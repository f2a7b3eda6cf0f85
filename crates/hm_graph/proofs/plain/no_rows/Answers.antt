use Rattle.std.proofs.Common.{get_or, ap, sym, subst}
use Rattle.std.specs.List.{All}
use Rattle.std.proofs.lemmas.List.Elements.{All-push}
use Rattle.hm_edges.specs.declared.units.TextKind.TheVariants.{Text}
use Rattle.hm_graph.specs.Interned.{IsRow, unknown}
use Rattle.hm_graph.specs.declared.plain.PlainRow.{PlainRow}
use Rattle.hm_graph.proofs.PlainRows.{unknown_row}
use Rattle.hm_graph.proofs.plain.no_rows.Goals as goal

pub loop-place-preserved : goal.loop-place-preserved
loop-place-preserved c = λ m more.
    let row : PlainRow = record { list = 4294967295; kind = Text; steps = c.new.result } in
    subst (All (IsRow m more)) (sym c.in_ok-push.ensures.items)
    (All-push (IsRow m more) c.loop-place.rows.items row (c.loop-place.invariant m more) (unknown_row m more row (λ k. ap (λ xs. get_or xs k unknown) c.new.ensures.items)))
