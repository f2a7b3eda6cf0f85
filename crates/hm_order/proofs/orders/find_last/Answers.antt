use Rattle.std.proofs.Common.{◌≡◌, ◌≤◌, ◌+◌, ◌∷◌, ◌++◌, [], length, take, subst, sym, ap, arith}
use Rattle.std.proofs.lemmas.List.{take_all}
use Rattle.std.proofs.lemmas.List.Elements.{All-push}
use Rattle.std.specs.List.{All}
use Rattle.hm_base.specs.Walks.{Attribute}
use Rattle.hm_graph_laws.specs.ExchangeLaws.{sparing_plain}
use Rattle.hm_options.proofs.Distinct.{take_push}
use Rattle.hm_order.specs.Orders.{ordered}
use Rattle.hm_order.specs.Places.{AreCosts, IsLowCost}
use Rattle.hm_order.specs.declared.costs.AttrCost.{AttrCost}
use Rattle.hm_tree.specs.Moved.{moved}
use Rattle.hm_tree.specs.Views.{attributes_shown}
use Rattle.hm_order.proofs.Places.{costs_count, costs_more, first_goes_last, not_set, ordered_is_moved}
use Rattle.hm_order.proofs.Savings.{first_saving}
use Rattle.hm_order.proofs.orders.find_last.Goals as goal

pub returns-then-not-closes-clause-order : goal.returns-then-not-closes-clause-order
returns-then-not-closes-clause-order c =
    let g = sparing_plain c.args.table.now.entries c.args.rules in
    let xs = attributes_shown c.args.attrs.now in
    subst (λ closes. ordered g closes xs ≡ moved 0 xs) (sym c.if-not-closes.true) (first_goes_last g (not_set c.args.rules.tight c.if-not-rules.true) xs)

pub returns-then-cost-clause-order : goal.returns-then-cost-clause-order
returns-then-cost-clause-order c =
    first_saving c.args.table.now.entries c.every_table.ensures.names c.args.rules c.args.closes (attributes_shown c.args.attrs.now) c.loop-i.i (record { name = c.at.result.0.now; value = c.at.result.1.now }) c.in_ok-cost.cost c.loop-i.costs.items
    c.loop-i.invariant.costs c.loop-i.invariant.few c.at.ensures c.in_ok-cost.ensures.inner c.in_ok-cost.ensures.last c.if-cost.true

pub loop-i-preserved : goal.loop-i-preserved
loop-i-preserved c =
    let g = sparing_plain c.args.table.now.entries c.args.rules in
    let xs = attributes_shown c.args.attrs.now in
    let a : Attribute = record { name = c.at.result.0.now; value = c.at.result.1.now } in
    let cost : AttrCost = c.in_ok-cost.cost in
    let pushed : c.push.new.self.items ≡ c.loop-i.costs.items ++ cost ∷ [] = c.in_ok-push.ensures.items in
    let none : cost.inner ≤ cost.last = omega (arith, c.if-cost.false) in
    record {
      costs = subst (λ all. AreCosts g c.args.closes all (take (c.loop-i.i + 1) xs)) (sym pushed)
          (subst (λ all. AreCosts g c.args.closes (c.loop-i.costs.items ++ cost ∷ []) all) (sym (take_push xs c.loop-i.i a c.at.ensures))
          (costs_more g c.args.closes c.loop-i.costs.items (take c.loop-i.i xs) cost a c.loop-i.invariant.costs c.in_ok-cost.ensures.inner c.in_ok-cost.ensures.last));
      low = subst (All IsLowCost) (sym pushed) (All-push IsLowCost c.loop-i.costs.items cost c.loop-i.invariant.low c.in_ok-cost.ensures.low);
      few = subst (All (λ (d : AttrCost). d.inner ≤ d.last)) (sym pushed) (All-push (λ (d : AttrCost). d.inner ≤ d.last) c.loop-i.costs.items cost c.loop-i.invariant.few none);
    }

-- after the loop
pub best_last-requires-clause-some : goal.best_last-requires-clause-some
best_last-requires-clause-some c =
    let g = sparing_plain c.args.table.now.entries c.args.rules in
    let xs = attributes_shown c.args.attrs.now in
    let past : length xs ≤ c.loop-i.i = omega (arith, c.len-i-end.ensures.len, c.loop-i-test.false) in
    let all : AreCosts g c.args.closes c.loop-i.costs.items xs = subst (AreCosts g c.args.closes c.loop-i.costs.items) (take_all c.loop-i.i xs past) c.loop-i.invariant.costs in
    omega (arith, ap length c.deref.ensures.value, costs_count g c.args.closes c.loop-i.costs.items xs all, c.requires.some)

pub best_last-requires-clause-low : goal.best_last-requires-clause-low
best_last-requires-clause-low c = subst (All IsLowCost) (sym c.deref.ensures.value) c.loop-i.invariant.low

all_found : (c : goal.After-best_last) → AreCosts (sparing_plain c.args.table.now.entries c.args.rules) c.args.closes c.deref.result.now (attributes_shown c.args.attrs.now)
all_found c =
    let g = sparing_plain c.args.table.now.entries c.args.rules in
    let xs = attributes_shown c.args.attrs.now in
    let past : length xs ≤ c.loop-i.i = omega (arith, c.len-i-end.ensures.len, c.loop-i-test.false) in
    subst (λ all. AreCosts g c.args.closes all xs) (sym c.deref.ensures.value) (subst (AreCosts g c.args.closes c.loop-i.costs.items) (take_all c.loop-i.i xs past) c.loop-i.invariant.costs)

pub overflow_cast-result : goal.overflow_cast-result
overflow_cast-result c = omega (arith, costs_count (sparing_plain c.args.table.now.entries c.args.rules) c.args.closes c.deref.result.now (attributes_shown c.args.attrs.now) (all_found c), c.best_last.ensures.inside, c.requires.few)

pub returns-clause-inside : goal.returns-clause-inside
returns-clause-inside c = omega (arith, costs_count (sparing_plain c.args.table.now.entries c.args.rules) c.args.closes c.deref.result.now (attributes_shown c.args.attrs.now) (all_found c), c.best_last.ensures.inside)

pub returns-clause-order : goal.returns-clause-order
returns-clause-order c = ordered_is_moved (sparing_plain c.args.table.now.entries c.args.rules) c.args.closes c.deref.result.now (attributes_shown c.args.attrs.now) c.best_last.result (all_found c) c.best_last.ensures
