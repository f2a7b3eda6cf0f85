use Rattle.std.proofs.Common.{◌≡◌, ◌∙◌, ◌+◌, map, sym, subst, ap, refl}
use Rattle.hm_cert.specs.Layout.{told}
use Rattle.hm_graph.specs.Steps.{is_forced}
use Rattle.hm_shortest.specs.Stretches.{placed}
use Rattle.hm_shortest.proofs.Found.{RowsKept, row_forced, row_kept, rows_all}
use Rattle.hm_shortest.proofs.stretches.keep_rows.Goals.{else-not-is_forced, then-not-is_forced+in_ok-place_row+in_ok-push_row}
use Rattle.hm_shortest.proofs.stretches.keep_rows.Goals as goal

pub loop-k-init : goal.loop-k-init
loop-k-init c = λ last at. refl

pub loop-k-preserved : goal.loop-k-preserved
loop-k-preserved c =
    let l = c.loop-k in
    let stretch = c.args.stretch.now in
    let found = c.args.found.now in
    let kept = c.index-stretch-k.result in
    let forced : c.is_forced.result ≡ is_forced kept.step = c.is_forced.ensures ∙ ap (λ x. is_forced x.step) c.kept.view_is in
    elim c.if-not-is_forced.branch [
      | then-not-is_forced+in_ok-place_row+in_ok-push_row w ↦ let row = map told w.deref.result.now in
          let own : row ≡ placed c.args.top _ = ap (map told) w.deref.ensures.value ∙ w.in_ok-place_row.ensures ∙ ap (placed c.args.top) w.row.ensures in
          subst (RowsKept stretch found c.args.top c.args.rows.now (l.k + 1)) (sym (w.in_ok-push_row.ensures.ok) ∙ sym w.rows-is)
          (row_kept stretch found c.args.top c.args.rows.now l.rows l.k kept row c.loop-k-test.true c.index-stretch-k.is (sym forced ∙ w.if-not-is_forced.true) own l.invariant)
      | else-not-is_forced w ↦ subst (RowsKept stretch found c.args.top c.args.rows.now (l.k + 1)) (sym w.rows-is)
          (row_forced stretch found c.args.top c.args.rows.now l.rows l.k kept c.loop-k-test.true c.index-stretch-k.is (sym forced ∙ w.if-not-is_forced.false) l.invariant)
    ]

pub returns : goal.returns
returns c = rows_all c.args.stretch.now c.args.found.now c.args.top c.args.rows.now c.loop-k.rows c.loop-k.k c.loop-k-test.false c.loop-k.invariant
