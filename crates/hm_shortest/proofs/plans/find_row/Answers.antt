use Rattle.std.proofs.Common.{◌∙◌, ◌<◌, ◌≤◌, ◌++◌, [], cond, length, ap, map, sym, subst, arith}
use Rattle.std.proofs.lemmas.List.{take_all}
use Rattle.hm_graph.specs.Prices.{best_price, row_over}
use Rattle.hm_shortest.proofs.Rows.{chosen_more, made_more}
use Rattle.hm_graph.specs.Graphs.{AreLowHops}
use Rattle.hm_cert.specs.Layout.{told}
use Rattle.hm_graph.specs.Ways.{choice}
use Rattle.hm_graph.proofs.Low.{low_hops}
use Rattle.hm_shortest.proofs.FewChoices.{choice_fits}
use Rattle.hm_shortest.proofs.plans.find_row.Goals as goal

pub find_best-best-requires-clause-low : goal.find_best-best-requires-clause-low
find_best-best-requires-clause-low c = subst AreLowHops (sym c.hops.ensures) (low_hops c.args.step.now c.loop-place.place c.requires.low)

pub put_choice-requires : goal.put_choice-requires
put_choice-requires c =
    let next_row = map told c.args.next_row.now in
    subst (λ n. n < 256) (sym (c.find_best-best.ensures.place ∙ ap (choice next_row) c.hops.ensures)) (choice_fits next_row c.args.step.now c.loop-place.place c.requires.few)

pub loop-place-preserved : goal.loop-place-preserved
loop-place-preserved c =
    let l = c.loop-place in
    let next_row = map told c.args.next_row.now in
    let inside : l.place < length c.args.step.now = omega (arith, c.loop-place-test.true) in
    record {
      row = made_more told (best_price next_row) l.row.items _ c.find_best-best.result.price c.args.step.now l.place [] inside l.invariant.row c.in_ok-push.ensures.items (c.find_best-best.ensures.price ∙ ap (best_price next_row) c.hops.ensures);
      choices = chosen_more (choice next_row) c.is_forced-forced.result c.args.choices.now.items l.choices.items _ c.find_best-best.result.place c.args.step.now l.place inside l.invariant.choices c.in_ok-put_choice.ensures (c.find_best-best.ensures.place ∙ ap (choice next_row) c.hops.ensures);
    }

pub returns-clause-row : goal.returns-clause-row
returns-clause-row c =
    let past : length c.args.step.now ≤ c.loop-place.place = omega (arith, c.loop-place-test.false) in
    c.loop-place.invariant.row ∙ ap (row_over (map told c.args.next_row.now)) (take_all c.loop-place.place c.args.step.now past)

pub returns-clause-choices : goal.returns-clause-choices
returns-clause-choices c =
    let past : length c.args.step.now ≤ c.loop-place.place = omega (arith, c.loop-place-test.false) in
    c.loop-place.invariant.choices ∙ (λ i. c.args.choices.now.items ++ cond (c.is_forced-forced.ensures i) [] (map (choice (map told c.args.next_row.now)) (take_all c.loop-place.place c.args.step.now past i)))
