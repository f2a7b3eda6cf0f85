use Rattle.std.proofs.Common.{◌≡◌, ◌++◌, [], map, take, cond}
use Rattle.hm_cert.specs.Layout.{told}
use Rattle.hm_graph.specs.Prices.{row_over}
use Rattle.hm_graph.specs.Ways.{choice}
use Rattle.hm_shortest.proofs.plans.find_row.Given as goal

abbrev pub invariant-loop-place : goal.invariant-loop-place
invariant-loop-place l = record {
  row : map told l.row.items ≡ row_over (map told l.next_row) (take l.place l.step);
  choices : l.choices.items ≡ l.initial.choices.items ++ cond l.forced [] (map (choice (map told l.next_row)) (take l.place l.step));
}
