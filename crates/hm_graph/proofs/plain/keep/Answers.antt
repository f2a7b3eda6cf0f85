use Rattle.std.proofs.Common.{sym, subst, arith}
use Rattle.std.proofs.lemmas.List.Elements.{All-set}
use Rattle.hm_graph.specs.Interned.{IsRow}
use Rattle.hm_graph.specs.declared.plain.PlainRow.{PlainRow}
use Rattle.hm_graph.proofs.plain.keep.Goals as goal

pub returns : goal.returns
returns c = λ m more all own.
    let before : PlainRow = c.index_mut.result.now in
    let place = c.row_place-place.result in
    All-set (IsRow m more) c.args.rows.now.items place c.keep_in.new.row
    (c.keep_in.ensures m more (subst (IsRow m more) (sym c.index_mut.ensures.value) (all place before (omega (arith, c.if-place-len.false, c.len.ensures)))) own) all
