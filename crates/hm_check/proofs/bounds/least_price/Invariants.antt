use Rattle.std.proofs.Common.{◌≡◌, ◌≤◌, drop, map}
use Rattle.hm_cert.specs.Layout.{told}
use Rattle.hm_graph_laws.specs.Ways.{lesser}
use Rattle.hm_graph.specs.Prices.{best_price}
use Rattle.hm_check.proofs.bounds.least_price.Given as goal

abbrev pub invariant-loop-hop : goal.invariant-loop-hop
invariant-loop-hop l = record {
  fits : l.best ≤ 18446744073709551615;
  best : lesser (told l.best) (best_price (map told l.next_row) (drop l.hop-index l.hops)) ≡ best_price (map told l.next_row) l.hops;
}
