use Rattle.std.proofs.Common.{Some, ap, ◌∙◌, arith}
use Rattle.hm_graph_laws.specs.ExchangeLaws.{sparing_plain}
use Rattle.hm_tree.specs.Views.{attributes_shown, event_of}
use Rattle.hm_order.proofs.InOrder.{few_stay_so, other_view_stays, tag_is_ordered}
use Rattle.hm_order.proofs.orders.last_of.Goals as goal

pub returns-then-len-gt1 : goal.returns-then-len-gt1
returns-then-len-gt1 c =
    tag_is_ordered (sparing_plain c.args.table.now.entries c.args.rules) c.args.tree.now c.args.i c.in_ok-find_last.field-0 c.in-Start.name.now c.in-Start.foreign c.closes_itself-closes.result (attributes_shown c.in-Start.attrs)
    (c.event.ensures ∙ ap (λ e. Some (event_of e)) c.in-Start.is) c.closes_itself-closes.ensures c.in_ok-find_last.ensures.order

pub returns-else-len-gt1 : goal.returns-else-len-gt1
returns-else-len-gt1 c =
    few_stay_so (sparing_plain c.args.table.now.entries c.args.rules) c.args.tree.now c.args.i c.in-Start.name.now c.in-Start.foreign (attributes_shown c.in-Start.attrs)
    (c.event.ensures ∙ ap (λ e. Some (event_of e)) c.in-Start.is) (omega (arith, c.len.ensures.len, c.if-len-gt1.false))

pub returns-in_default : goal.returns-in_default
returns-in_default c = other_view_stays (sparing_plain c.args.table.now.entries c.args.rules) c.args.tree.now c.args.i c.event.result c.event.ensures c.in_default.not-Start
