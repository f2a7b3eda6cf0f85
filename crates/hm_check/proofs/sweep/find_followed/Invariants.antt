use Rattle.std.proofs.Common.{◌≡◌, map, take}
use Rattle.hm_cert.specs.Layout.{told}
use Rattle.hm_graph.specs.Prices.{row_over}
use Rattle.hm_check.proofs.sweep.find_followed.Given as goal

abbrev pub invariant-loop-place : goal.invariant-loop-place
invariant-loop-place l = map told l.row.items ≡ row_over (map told l.next_row) (take l.place l.step)
