use Rattle.std.proofs.Common.{◌≡◌, ◌∙◌, length, map, sym, arith}
use Rattle.std.proofs.lemmas.List.{length-map}
use Rattle.hm_cert.specs.Layout.{told}
use Rattle.hm_graph.proofs.StepsStill.{still_row}
use Rattle.hm_check.proofs.sweep.follow.Goals as goal

pub returns-then-len-width : goal.returns-then-len-width
returns-then-len-width c =
    let same : length (map told c.args.next_row.now.items) ≡ length c.args.step.now = omega (arith, length-map c.args.next_row.now.items told, c.len.ensures, c.width.ensures, c.if-len-width.true) in
    c.add_to.ensures ∙ sym (still_row (map told c.args.next_row.now.items) c.in-Some.len c.args.step.now same c.in-Some.ensures.still.1)
