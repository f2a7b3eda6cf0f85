use Rattle.std.proofs.Common.{◌∙◌, ◌++◌, map, ap, arith}
use Rattle.std.proofs.lemmas.List.{take_all}
use Rattle.hm_cert.specs.Certificate.{row_lines}
use Rattle.hm_cert.specs.Layout.{told}
use Rattle.hm_shortest.proofs.Whole.{lines_more}
use Rattle.hm_shortest.specs.Stretches.{placed}
use Rattle.hm_shortest.proofs.direct.put_rows.Goals as goal

pub loop-k-preserved : goal.loop-k-preserved
loop-k-preserved c =
    let l = c.loop-k in
    lines_more c.args.text.now.items l.text.items c.put_line.new.out.items c.args.rows.now l.k c.args.top (map told c.deref.result.now) (omega (arith, c.loop-k-test.true, c.rows-k-end.ensures)) l.invariant
    (ap (map told) c.deref.ensures.value ∙ c.in_ok-place_row.ensures ∙ ap (placed c.args.top) c.row.ensures) c.in_ok-put_line.ensures

pub returns : goal.returns
returns c = c.loop-k.invariant ∙ ap (λ rows. c.args.text.now.items ++ row_lines (map (placed c.args.top) rows)) (take_all c.loop-k.k c.args.rows.now (omega (arith, c.loop-k-test.false, c.rows-k-end.ensures)))
