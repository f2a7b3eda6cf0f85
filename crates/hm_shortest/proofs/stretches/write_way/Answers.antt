use Rattle.std.proofs.Common.{◌≡◌, ◌∙◌, ◌+◌, ◌^◌, ◌++◌, map, sym, subst, ap, arith, refl, Some}
use Rattle.hm_cert.specs.Layout.{told}
use Rattle.hm_cert.specs.Rows.{AreBelow}
use Rattle.hm_edges.specs.Pieces.{piece_text}
use Rattle.hm_graph.specs.Ways.{hop_taken}
use Rattle.hm_shortest.proofs.Found.{way_all, way_more}
use Rattle.hm_shortest.proofs.FromLast.{are_below}
use Rattle.hm_shortest.specs.Stretches.{KeptView}
use Rattle.hm_shortest.proofs.stretches.write_way.Goals as goal

pub best_hop-requires-clause-below : goal.best_hop-requires-clause-below
best_hop-requires-clause-below c =
    let row = map told c.row-next_row.result.now in
    are_below (2 ^ 62) (2 ^ 63 + 2 ^ 62) row (omega arith) (subst (AreBelow (2 ^ 62)) (sym c.row-next_row.ensures) (c.requires.below _))

pub loop-k-init : goal.loop-k-init
loop-k-init c = λ last rows. refl

pub loop-k-preserved : goal.loop-k-preserved
loop-k-preserved c =
    let t = c.args.table.now.entries in
    let kept = c.index-stretch-k.result in
    let row = map told c.row-next_row.result.now in
    let hop = c.in-Some.hop in
    let taken : Some hop ≡ hop_taken row kept.step c.loop-k.place = sym c.in-Some.is ∙ c.best_hop.ensures ∙ ap (λ (x : KeptView). hop_taken row x.step c.loop-k.place) c.kept.view_is in
    let text : c.put_piece.new.out.items ≡ c.loop-k.out.items ++ piece_text t kept.own hop.piece =
    c.in_ok-put_piece.ensures ∙ ap (λ o. c.loop-k.out.items ++ piece_text t o hop.piece) (c.lent.ensures ∙ ap (λ (x : KeptView). x.own) c.kept.view_is) in
    way_more t c.args.stretch.now c.args.found.now c.args.out.now.items c.loop-k.out.items c.put_piece.new.out.items c.loop-k.k c.loop-k.place kept hop row c.loop-k-test.true c.index-stretch-k.is c.row-next_row.ensures taken text c.loop-k.invariant

pub returns : goal.returns
returns c = λ whole. way_all c.args.table.now.entries c.args.stretch.now c.args.found.now c.args.out.now.items c.loop-k.out.items c.loop-k.k c.loop-k.place c.loop-k-test.false c.loop-k.invariant
