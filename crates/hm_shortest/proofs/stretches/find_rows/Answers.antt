use Rattle.std.proofs.Common.{◌≡◌, ◌∙◌, ◌+◌, ◌-◌, ◌<◌, ◌^◌, ◌∷◌, ◌++◌, drop, length, map, sym, subst, ap, arith}
use Rattle.std.proofs.lemmas.List.{length-map}
use Rattle.hm_cert.specs.Layout.{told}
use Rattle.hm_graph.specs.Graphs.{AreLow, IsLowStep}
use Rattle.hm_graph.specs.Prices.{row_over, zeros}
use Rattle.std.specs.Prelude.{[], slice_index_or}
use Rattle.hm_shortest.proofs.Found.{IsFoundFrom, found_below, found_last, found_more}
use Rattle.hm_shortest.proofs.FromLast.{are_below}
use Rattle.hm_shortest.specs.Stretches.{AreFound, KeptView, steps_in}
use Rattle.hm_shortest.proofs.stretches.find_rows.Goals as goal

pub loop-k-init : goal.loop-k-init
loop-k-init c =
    let stretch = c.args.stretch.now in
    let row = map told c.deref.result.now in
    let is : row ≡ zeros c.args.last = ap (map told) c.deref.ensures.value ∙ c.in_ok-zero_each.ensures in
    subst (IsFoundFrom c.args.last (steps_in stretch) (length stretch)) (sym (c.in_ok-push_row.ensures.ok ∙ ap (λ rows. rows ++ row ∷ []) c.clear.ensures))
    (subst (λ n. IsFoundFrom c.args.last (steps_in stretch) n (row ∷ [])) (length-map stretch (λ (x : KeptView). x.step)) (found_last c.args.last (steps_in stretch) row is))

pub row_before-requires-clause-below : goal.row_before-requires-clause-below
row_before-requires-clause-below c =
    let stretch = c.args.stretch.now in
    let row = map told c.row.result.now in
    let few : length (steps_in stretch) < 2 ^ 28 = omega (arith, c.requires, length-map stretch (λ (x : KeptView). x.step)) in
    are_below (2 ^ 62) (2 ^ 63 + 2 ^ 62) row (omega arith)
    (found_below c.args.last (steps_in stretch) c.loop-k.k c.loop-k.found row few c.loop-k.invariant (c.row.ensures ∙ ap (λ n. slice_index_or c.loop-k.found (n - 1) []) c.rows.ensures))

pub loop-k-preserved : goal.loop-k-preserved
loop-k-preserved c =
    let stretch = c.args.stretch.now in
    let found = c.loop-k.found in
    let k = c.loop-k.k in
    let kept = c.index-stretch-k.result in
    let row = map told c.row.result.now in
    let front = map told c.deref-in-loop-k.result.now in
    let next : k ≡ k - 1 + 1 = omega (arith, c.loop-k-test.true) in
    let low : IsLowStep kept.step = subst (λ (x : KeptView). IsLowStep x.step) c.kept.view_is c.kept.invariant in
    let over : front ≡ row_over row kept.step = ap (map told) c.deref-in-loop-k.ensures.value ∙ c.in_ok-row_before.ensures ∙ ap (λ (x : KeptView). row_over row x.step) c.kept.view_is in
    subst (IsFoundFrom c.args.last (steps_in stretch) (k - 1)) (sym c.in_ok-push_row-2.ensures.ok)
    (found_more c.args.last stretch (k - 1) kept found row front (omega arith) c.index-stretch-k.is low (subst (λ n. IsFoundFrom c.args.last (steps_in stretch) n found) next c.loop-k.invariant)
    (c.row.ensures ∙ ap (λ n. slice_index_or found (n - 1) []) c.rows.ensures) over)

pub returns-clause-found : goal.returns-clause-found
returns-clause-found c = let all : c.loop-k.k ≡ 0 = omega (arith, c.loop-k-test.false) in subst (λ k. AreFound c.args.last (steps_in c.args.stretch.now) k c.loop-k.found) all c.loop-k.invariant.rows

pub returns-clause-low : goal.returns-clause-low
returns-clause-low c = let all : c.loop-k.k ≡ 0 = omega (arith, c.loop-k-test.false) in subst (λ k. AreLow (drop k (steps_in c.args.stretch.now))) all c.loop-k.invariant.low
