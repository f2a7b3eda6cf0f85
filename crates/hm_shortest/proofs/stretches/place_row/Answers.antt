use Rattle.std.proofs.Common.{◌∙◌, ◌-◌, ◌++◌, ◌∷◌, [], get_or, map, take, sym, ap}
use Rattle.std.proofs.lemmas.List.{map_more, map_push, take_all}
use Rattle.std.specs.Option.{option_map}
use Rattle.hm_cert.specs.Layout.{told}
use Rattle.hm_shortest.specs.Stretches.{placed}
use Rattle.hm_shortest.proofs.stretches.place_row.Goals as goal

pub loop-k-preserved : goal.loop-k-preserved
loop-k-preserved c =
    let l = c.loop-k in
    let row = c.args.row.now in
    let top = c.args.top in
    ap (map told) c.in_ok-push.ensures.items ∙ map_push told l.into.items c.place_price.result ∙ (λ i. l.invariant i ++ c.place_price.ensures i ∷ [])
    ∙ sym (ap (placed top) (map_more told row l.k 0 c.loop-k-test.true) ∙ map_push (option_map (λ q. top - q)) (map told (take l.k row)) (told (get_or row l.k 0)))

pub returns : goal.returns
returns c = c.loop-k.invariant ∙ ap (λ xs. placed c.args.top (map told xs)) (take_all c.loop-k.k c.args.row.now c.loop-k-test.false)
