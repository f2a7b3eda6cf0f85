use Rattle.std.proofs.Common.{◌≡◌, subst}
use Rattle.hm_base.specs.Walks.{Attribute}
use Rattle.hm_cert.specs.Layout.{told}
use Rattle.hm_graph_laws.specs.ExchangeLaws.{sparing_plain}
use Rattle.hm_graph_laws.specs.States.{first_state}
use Rattle.hm_graph_laws.specs.UnitEdges.{edges_of}
use Rattle.hm_graph_laws.specs.Units.{units_of}
use Rattle.hm_graph_laws.specs.Ways.{least}
use Rattle.hm_optimality_laws.proofs.Best.{spares_plain}
use Rattle.hm_order.proofs.Alone.{alone_costs}
use Rattle.hm_order.proofs.tags.last_alone.Goals as goal

pub overflow_sub-result : goal.overflow_sub-result
overflow_sub-result c =
    let g = sparing_plain c.args.table.now.entries c.args.rules in
    let a : Attribute = record { name = c.args.name.now; value = c.args.value.now } in
    (alone_costs g (spares_plain c.args.table.now.entries c.every_table.ensures.names c.args.rules) c.args.closes a c.in_ok-price.price
    (subst (λ w. told c.in_ok-price.price ≡ least (edges_of g) (units_of c.args.rules w) first_state) c.in_ok-tree.ensures c.in_ok-price.ensures)).long

pub returns-clause-cost : goal.returns-clause-cost
returns-clause-cost c =
    let g = sparing_plain c.args.table.now.entries c.args.rules in
    let a : Attribute = record { name = c.args.name.now; value = c.args.value.now } in
    (alone_costs g (spares_plain c.args.table.now.entries c.every_table.ensures.names c.args.rules) c.args.closes a c.in_ok-price.price
    (subst (λ w. told c.in_ok-price.price ≡ least (edges_of g) (units_of c.args.rules w) first_state) c.in_ok-tree.ensures c.in_ok-price.ensures)).cost
