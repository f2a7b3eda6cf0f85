use Rattle.std.proofs.Common.{refl, sym}
use Rattle.hm_input.proofs.Loaded.{is_loaded, of_slice, table_of_bytes, table_of_html, table_of_none}
use Rattle.hm_input.proofs.loads.load_table.Goals as goal

pub returns-then-eq-clause-ok : goal.returns-then-eq-clause-ok
returns-then-eq-clause-ok g c = table_of_none _ c.args.name.now c.in_ok-table.table.entries (sym c.if-eq.ensures) c.in_ok-table.ensures

pub returns-then-eq-2-clause-ok : goal.returns-then-eq-2-clause-ok
returns-then-eq-2-clause-ok g c = table_of_html _ c.args.name.now c.in_ok-table-2.table.entries (sym c.if-eq.ensures) (sym c.if-eq-2.ensures) c.in_ok-table-2.ensures

pub returns-in-Ok-clause-ok : goal.returns-in-Ok-clause-ok
returns-in-Ok-clause-ok g c = table_of_bytes _ c.args.name.now c.as_slice.result.now _ (sym c.if-eq.ensures) (sym c.if-eq-2.ensures) (of_slice _ c.args.name.now _ c.in_ok-bytes.bytes.items c.as_slice.result.now c.as_slice.ensures.value
    (is_loaded _ c.args.name.now _ c.in_ok-bytes.bytes.items c.in_ok-bytes.ensures.loaded c.in_ok-bytes.ensures.within (c.in_ok-bytes.ensures.there refl))) c.in-Ok.ensures.ok

pub returns-clause-err : goal.returns-clause-err
returns-clause-err g c = c.unread_table.ensures.reason _ c.args.name.now (λ n. table_of_bytes _ c.args.name.now c.as_slice.result.now _ (sym c.if-eq.ensures) (sym c.if-eq-2.ensures) (of_slice _ c.args.name.now _ c.in_ok-bytes.bytes.items c.as_slice.result.now c.as_slice.ensures.value
    (is_loaded _ c.args.name.now _ c.in_ok-bytes.bytes.items c.in_ok-bytes.ensures.loaded c.in_ok-bytes.ensures.within (c.in_ok-bytes.ensures.there refl))) (c.in-Err.ensures.fault n))
