use Rattle.std.proofs.Common.{◌≡◌, ◌∙◌, ◌+◌, ◌++◌, reverse, map, sym, ap, subst, arith}
use Rattle.hm_cert.specs.Certificate.{head_lines, row_line}
use Rattle.hm_cert.specs.Layout.{told}
use Rattle.hm_graph.specs.Prices.{zeros}
use Rattle.hm_shortest.specs.Plans.{IsFound}
use Rattle.hm_shortest.proofs.FromLast.{last_back, plan_is, if_three}
use Rattle.hm_shortest.proofs.plans.backward.Goals as goal

pub loop-layer-init : goal.loop-layer-init
loop-layer-init c =
    let last = last_back c.args.graph.now c.in_ok-back.back.text c.in_ok-back.back.choices.items (map told c.in_ok-back.back.row.items)
    (c.in_ok-back.ensures.text ∙ ap (λ n. reverse (row_line (zeros n))) c.last.ensures) c.in_ok-back.ensures.choices (c.in_ok-back.ensures.row ∙ ap zeros c.last.ensures) in
    record {
      found = subst (λ k. IsFound c.args.graph.now k c.in_ok-back.back) (sym c.last_layer-layer.ensures.layer) last;
      place = c.last_layer-layer.ensures.place;
      within = omega (arith, c.last_layer-layer.ensures.layer);
    }

pub go_back-requires-clause-found : goal.go_back-requires-clause-found
go_back-requires-clause-found c =
    let at : c.loop-layer.layer.layer ≡ c.back.result.layer + 1 = omega (arith, c.back.ensures.layer, c.loop-layer-test.true) in
    subst (λ k. IsFound c.args.graph.now k c.loop-layer.back) at c.loop-layer.invariant.found

pub returns : goal.returns
returns c =
    if_three c.finish.result
    (λ plan t d f. plan_is c.args.graph.now c.loop-layer.layer.layer c.loop-layer.back.text c.loop-layer.back.choices.items (map told c.loop-layer.back.row.items) plan (omega (arith, c.loop-layer-test.false)) c.loop-layer.invariant.found (t ∙ (λ i. reverse (c.loop-layer.back.text ++ reverse (head_lines (c.format.ensures i) (c.rules.ensures i))))) (ap (λ v. v.items) d) f)
    c.finish.ensures.certificate c.finish.ensures.choices c.finish.ensures.first
