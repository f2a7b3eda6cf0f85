use Rattle.std.proofs.Common.{◌≡◌, drop, map}
use Rattle.hm_cert.specs.Layout.{told}
use Rattle.hm_check.specs.Rows.{high_at_end}
use Rattle.hm_check.proofs.bounds.find_high_at_end.Given as goal

abbrev pub invariant-loop-state : goal.invariant-loop-state
invariant-loop-state l = high_at_end l.k l.state (map told (drop l.state l.row)) ≡ high_at_end l.k 0 (map told l.row)
