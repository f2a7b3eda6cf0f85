use Rattle.std.proofs.Common.{◌≡◌, map}
use Rattle.hm_cert.specs.Layout.{told}
use Rattle.hm_graph.specs.Prices.{zeros}
use Rattle.hm_shortest.proofs.plans.zero_row.Given as goal

abbrev pub invariant-loop-place : goal.invariant-loop-place
invariant-loop-place l = map told l.row.items ≡ zeros l._place
