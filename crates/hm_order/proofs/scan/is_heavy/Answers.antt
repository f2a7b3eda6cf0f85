use Rattle.std.proofs.Common.{◌<◌, length, slice_index_or, subst, sym, ap, ◌∙◌, arith}
use Rattle.std.proofs.lemmas.List.{take_all}
use Rattle.std.proofs.lemmas.Str.{length-encode}
use Rattle.std.proofs.lemmas.Grind.{get_or_default_zero}
use Rattle.hm_edges.proofs.NamesFor.{place_inside}
use Rattle.hm_order.specs.Weights.{AreHeavy, weight}
use Rattle.hm_order.proofs.Scans.{heavy_more}
use Rattle.hm_order.proofs.scan.is_heavy.Goals as goal

pub is_heavy_name-requires : goal.is_heavy_name-requires
is_heavy_name-requires c =
    let ids = c.names_for-id-items.result.now in
    let at = c.id-item.is ∙ get_or_default_zero ids c.loop-id.id-index c.id-item.result c.loop-id-test.true ∙ ap (λ xs. slice_index_or xs c.loop-id.id-index 0) c.names_for-id-items.ensures in
    subst (λ i. i < length c.args.table.now.entries) (sym at) (place_inside c.args.c c.args.table.now.entries c.loop-id.id-index (subst (λ xs. c.loop-id.id-index < length xs) c.names_for-id-items.ensures c.loop-id-test.true))

pub loop-id-preserved : goal.loop-id-preserved
loop-id-preserved c = heavy_more c.args.table.now.entries c.args.low c.names_for-id-items.result.now c.loop-id.id-index c.id-item.result c.loop-id-test.true c.id-item.is c.loop-id.invariant (c.is_heavy_name.ensures c.if-not-is_heavy_name.false)

pub returns : goal.returns
returns c = λ there.
    let all = subst (AreHeavy (weight c.args.low) c.args.table.now.entries) (take_all c.loop-id.id-index c.names_for-id-items.result.now c.loop-id-test.false ∙ c.names_for-id-items.ensures) c.loop-id.invariant in
    record { few = omega (arith, length-encode c.args.c, c.len_utf8.ensures.value, c.if-len_utf8-gt3.false); names = all }
