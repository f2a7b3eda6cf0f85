use Rattle.std.proofs.Common.{◌≡◌, ◌<◌, None, drop, length, get_or, arith, sym, subst, ◌∙◌, length-drop}
use Rattle.std.proofs.lemmas.List.{take_rest}
use Rattle.hm_refs.specs.Reads.{IsReadReference}
use Rattle.hm_scan.specs.TextPlaces.{reference_here}
use Rattle.hm_scan.proofs.Ends.{here_amp, here_other}
use Rattle.hm_lexer.proofs.PieceEnds.{part_points, part_slice}
use Rattle.hm_lexer.proofs.parts.scan_part.Goals as goal
use Rattle.hm_lexer.proofs.parts.scan_part.Goals.{then-bytes-eq38+in_default, else-bytes-eq38}

pub returns-in-Some : goal.returns-in-Some
returns-in-Some c =
    let t = c.args.table.now.entries in
    let text = c.args.text.now in
    let s = drop c.args.from text in
    let some : 0 < length (drop c.args.from text) = omega (arith, length-drop c.args.from text, c.requires.inside) in
    let amp : get_or (drop c.args.from text) 0 0 ≡ 38 = rw (c.as_bytes.ensures.value, take_rest text c.args.from) at c.if-bytes-eq38.true in
    let read = rw (c.as_bytes.ensures.value, take_rest text c.args.from) at c.in-Some.ensures in
    let found : IsReadReference (reference_here t (drop c.args.from text)) (drop c.args.from text) c.in-Some.reference = subst (λ o. IsReadReference o (drop c.args.from text) c.in-Some.reference) (sym (here_amp t s some amp)) read in
    let reads = part_points t text c.args.from c.in-Some.reference c.utf8.text c.requires.inside found in
    (sym (rw (c.as_bytes.ensures.value, take_rest text c.args.from) at c.if-not-is_told.ensures), omega (arith, found.some), reads.boundary, λ _. reads)

pub returns : goal.returns
returns c =
    let t = c.args.table.now.entries in
    let text = c.args.text.now in
    let some : 0 < length (drop c.args.from text) = omega (arith, length-drop c.args.from text, c.requires.inside) in
    let none : reference_here t (drop c.args.from text) ≡ None =
    elim c.if-bytes-eq38.branch [
      | then-bytes-eq38+in_default w ↦ here_amp t (drop c.args.from text) some (rw (c.as_bytes.ensures.value, take_rest text c.args.from) at w.if-bytes-eq38.true) ∙ (rw (c.as_bytes.ensures.value, take_rest text c.args.from) at w.in_default.ensures)
      | else-bytes-eq38 w ↦ here_other t (drop c.args.from text) (rw (c.as_bytes.ensures.value, take_rest text c.args.from) at w.if-bytes-eq38.false)
    ] in
    let to = c.piece_end-to.ensures in
    let reads = part_slice t text c.args.from c.piece_end-to.result c.requires.inside c.requires.boundary none to in
    (sym (rw (c.as_bytes.ensures.value, take_rest text c.args.from) at c.if-not-is_told.ensures), omega (arith, to.forward), reads.boundary, λ _. reads)
