use Rattle.std.proofs.Common.{◌≤◌, ◌∙◌, ap, length, arith}
use Rattle.hm_graph_laws.specs.ExchangeLaws.{sparing_plain}
use Rattle.hm_order.proofs.InOrder.{length-partly, partly_all, partly_more}
use Rattle.hm_order.proofs.orders.order_tags.Goals as goal

pub order_tag-requires : goal.order_tag-requires
order_tag-requires c = omega (arith, ap length c.loop-i.invariant, length-partly (sparing_plain c.args.table.now.entries c.args.rules) c.loop-i.i c.args.tree.now, c.len-i-end.ensures.len, c.loop-i-test.true)

pub loop-i-preserved : goal.loop-i-preserved
loop-i-preserved c = partly_more (sparing_plain c.args.table.now.entries c.args.rules) c.loop-i.i c.args.tree.now c.loop-i.tree _ c.loop-i.invariant (omega (arith, c.len-i-end.ensures.len, c.loop-i-test.true)) c.in_ok-order_tag.ensures

pub returns : goal.returns
returns c =
    let past : length c.args.tree.now ≤ c.loop-i.i = omega (arith, c.len-i-end.ensures.len, c.loop-i-test.false) in
    c.loop-i.invariant ∙ partly_all (sparing_plain c.args.table.now.entries c.args.rules) c.loop-i.i c.args.tree.now past
