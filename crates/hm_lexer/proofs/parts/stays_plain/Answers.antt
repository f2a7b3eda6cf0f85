use Rattle.std.proofs.Common.{sym, drop, arith, length-drop}
use Rattle.std.proofs.lemmas.List.{take_rest}
use Rattle.hm_lexer.proofs.PieceEnds.{stays_amp, stays_other}
use Rattle.hm_lexer.proofs.parts.stays_plain.Goals as goal

pub returns-then-bytes-ne38 : goal.returns-then-bytes-ne38
returns-then-bytes-ne38 c =
    let t = c.args.table.now.entries in
    let text = c.args.text.now in
    rw (c.as_bytes.ensures.value, take_rest text c.args.at) (stays_other t (drop c.args.at text) (omega (arith, length-drop c.args.at text)) (sym (rw (c.as_bytes.ensures.value, take_rest text c.args.at) at c.if-not-is_told.ensures)) (sym c.if-begins_markup.ensures) (rw (c.as_bytes.ensures.value, take_rest text c.args.at) at c.if-bytes-ne38.true))

pub returns-else-bytes-ne38 : goal.returns-else-bytes-ne38
returns-else-bytes-ne38 c =
    let t = c.args.table.now.entries in
    let text = c.args.text.now in
    stays_amp t (drop c.args.at text) c.read_reference.result c.is_none.result (omega (arith, length-drop c.args.at text)) (sym (rw (c.as_bytes.ensures.value, take_rest text c.args.at) at c.if-not-is_told.ensures)) (sym c.if-begins_markup.ensures)
    (rw (c.as_bytes.ensures.value, take_rest text c.args.at) at c.if-bytes-ne38.false) (rw (c.as_bytes.ensures.value, take_rest text c.args.at) at c.read_reference.ensures) c.is_none.ensures
