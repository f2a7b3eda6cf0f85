use Rattle.std.proofs.Common.{◌≤◌, take}
use Rattle.std.specs.List.{All}
use Rattle.hm_graph_laws.specs.ExchangeLaws.{sparing_plain}
use Rattle.hm_order.specs.Places.{AreCosts, IsLowCost}
use Rattle.hm_order.specs.declared.costs.AttrCost.{AttrCost}
use Rattle.hm_tree.specs.Views.{attributes_shown}
use Rattle.hm_order.proofs.orders.find_last.Given as goal

abbrev pub invariant-loop-i : goal.invariant-loop-i
invariant-loop-i l = record {
  costs : AreCosts (sparing_plain l.table.entries l.rules) l.closes l.costs.items (take l.i (attributes_shown l.attrs));
  low : All IsLowCost l.costs.items;
  few : All (λ (c : AttrCost). c.inner ≤ c.last) l.costs.items;
}
