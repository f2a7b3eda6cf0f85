use Rattle.std.proofs.Common.{◌≡◌}
use Rattle.hm_graph_laws.specs.ExchangeLaws.{sparing_plain}
use Rattle.hm_order.proofs.InOrder.{partly}
use Rattle.hm_order.proofs.orders.order_tags.Given as goal

abbrev pub invariant-loop-i : goal.invariant-loop-i
invariant-loop-i l = l.tree ≡ partly (sparing_plain l.table.entries l.rules) l.i l.initial.tree
