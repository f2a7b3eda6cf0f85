use Rattle.hm_graph_laws.specs.ExchangeLaws.{sparing_plain}
use Rattle.hm_order.proofs.Shortest.{made_like, made_settled, made_shortest}
use Rattle.hm_order.proofs.orders.reorder.Goals as goal

pub returns-clause-like : goal.returns-clause-like
returns-clause-like c = made_like (sparing_plain c.args.table.now.entries c.args.rules) c.args.tree _ c.in_ok-order_tags.ensures

pub returns-clause-settled : goal.returns-clause-settled
returns-clause-settled c = made_settled (sparing_plain c.args.table.now.entries c.args.rules) c.args.tree _ c.in_ok-order_tags.ensures

pub returns-clause-shortest : goal.returns-clause-shortest
returns-clause-shortest c = made_shortest c.args.table.now.entries c.every_table.ensures.names c.args.rules c.args.tree _ c.in_ok-order_tags.ensures
