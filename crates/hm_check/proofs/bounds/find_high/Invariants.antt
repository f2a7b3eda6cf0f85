use Rattle.std.proofs.Common.{◌≡◌, drop, map}
use Rattle.hm_cert.specs.Layout.{told}
use Rattle.hm_graph.specs.Prices.{row_over}
use Rattle.hm_check.specs.Rows.{high_in}
use Rattle.hm_check.proofs.bounds.find_high.Given as goal

abbrev pub invariant-loop-state : goal.invariant-loop-state
invariant-loop-state l = high_in l.k l.state (map told (drop l.state l.row)) (row_over (map told l.next_row) (drop l.state l.step)) ≡ high_in l.k 0 (map told l.row) (row_over (map told l.next_row) l.step)
