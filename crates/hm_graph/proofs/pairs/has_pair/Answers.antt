use Rattle.std.proofs.Common.{◌∙◌, ◌<◌, length, ap, sym, subst}
use Rattle.std.proofs.lemmas.List.{get_or_read}
use Rattle.hm_edges.proofs.NamesFor.{place_inside}
use Rattle.hm_edges.specs.Units.{has_pair}
use Rattle.hm_graph.proofs.PairNames.{pair_among, among_all, among_here, among_next, among_none}
use Rattle.hm_graph.proofs.pairs.has_pair.Goals as goal

pub loop-id-init : goal.loop-id-init
loop-id-init c = ap (pair_among c.args.table.now.entries c.args.c c.args.d) c.names_for-id-items.ensures ∙ among_all c.args.c c.args.d c.args.table.now.entries

pub stands_for-requires : goal.stands_for-requires
stands_for-requires c =
    let l = subst (λ w. c.loop-id.id-index < length w) c.names_for-id-items.ensures c.loop-id-test.true in
    rw (get_or_read _ c.loop-id.id-index c.id-item.result c.loop-id-test.true c.id-item.is 0, c.names_for-id-items.ensures) (place_inside c.args.c c.args.table.now.entries c.loop-id.id-index l)

pub returns-then-stands_for : goal.returns-then-stands_for
returns-then-stands_for c =
    among_here c.args.table.now.entries c.args.c c.args.d c.names_for-id-items.result.now c.loop-id.id-index c.id-item.result (has_pair c.args.table.now.entries c.args.c c.args.d)
    c.loop-id-test.true c.id-item.is c.loop-id.invariant (sym c.stands_for.ensures ∙ c.if-stands_for.true)

pub loop-id-preserved : goal.loop-id-preserved
loop-id-preserved c =
    among_next c.args.table.now.entries c.args.c c.args.d c.names_for-id-items.result.now c.loop-id.id-index c.id-item.result (has_pair c.args.table.now.entries c.args.c c.args.d)
    c.loop-id-test.true c.id-item.is c.loop-id.invariant (sym c.stands_for.ensures ∙ c.if-stands_for.false)

pub returns : goal.returns
returns c =
    among_none c.args.table.now.entries c.args.c c.args.d c.names_for-id-items.result.now c.loop-id.id-index (has_pair c.args.table.now.entries c.args.c c.args.d) c.loop-id-test.false c.loop-id.invariant
