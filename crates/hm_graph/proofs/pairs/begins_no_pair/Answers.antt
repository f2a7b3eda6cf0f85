use Rattle.std.proofs.Common.{◌∙◌, ◌<◌, length, ap, sym, subst}
use Rattle.std.proofs.lemmas.List.{get_or_read}
use Rattle.hm_edges.proofs.NamesFor.{place_inside}
use Rattle.hm_edges.specs.Units.{has_pair}
use Rattle.hm_graph.proofs.PairNames.{pair_among, among_all, among_next, among_none}
use Rattle.hm_graph.proofs.pairs.begins_no_pair.Goals as goal

pub loop-id-init : goal.loop-id-init
loop-id-init c = λ d. ap (pair_among c.args.table.now.entries c.args.c d) c.names_for-id-items.ensures ∙ among_all c.args.c d c.args.table.now.entries

pub is_double-requires : goal.is_double-requires
is_double-requires c =
    let l = subst (λ w. c.loop-id.id-index < length w) c.names_for-id-items.ensures c.loop-id-test.true in
    rw (get_or_read _ c.loop-id.id-index c.id-item.result c.loop-id-test.true c.id-item.is 0, c.names_for-id-items.ensures) (place_inside c.args.c c.args.table.now.entries c.loop-id.id-index l)

pub loop-id-preserved : goal.loop-id-preserved
loop-id-preserved c = λ d.
    among_next c.args.table.now.entries c.args.c d c.names_for-id-items.result.now c.loop-id.id-index c.id-item.result (has_pair c.args.table.now.entries c.args.c d)
    c.loop-id-test.true c.id-item.is (c.loop-id.invariant d) (c.is_double.ensures c.args.c d c.if-is_double.false)

pub returns : goal.returns
returns c = λ yes d.
    sym (among_none c.args.table.now.entries c.args.c d c.names_for-id-items.result.now c.loop-id.id-index (has_pair c.args.table.now.entries c.args.c d) c.loop-id-test.false (c.loop-id.invariant d))
