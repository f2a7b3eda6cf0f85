use Rattle.std.proofs.Common.{◌∷◌}
use Rattle.hm_edges.proofs.NamesFor.{names_begin, names_more, names_stopped, names_done, place_inside}
use Rattle.hm_edges.specs.Characters.{after_by}
use Rattle.hm_edges.specs.States.{where_of}
use Rattle.std.proofs.Common.{is_some, option_to_list, length, ◌<◌, subst}
use Rattle.std.proofs.lemmas.List.{get_or_read}
use Rattle.hm_edges.proofs.characters.add_names.Goals as goal

pub loop-id-init : goal.loop-id-init
loop-id-init c = λ u. names_begin c.args.table.now u c.args.into.now.items (where_of c.args.at) (after_by (is_some c.args.second)) c.args.c (option_to_list c.args.second) c.names_for-id-items.result.now c.names_for-id-items.ensures

pub add_name-requires : goal.add_name-requires
add_name-requires c =
    let l = subst (λ w. c.loop-id.id-index < length w) c.names_for-id-items.ensures c.loop-id-test.true in
    rw (get_or_read _ c.loop-id.id-index c.id-item.result c.loop-id-test.true c.id-item.is 0, c.names_for-id-items.ensures) (place_inside c.args.c c.args.table.now.entries c.loop-id.id-index l)

pub returns-in_err-add_name : goal.returns-in_err-add_name
returns-in_err-add_name c = λ u.
    names_stopped c.add_name.result c.from_residual.result _ c.args.table.now u c.args.into.now.items c.loop-id.into.items c.add_name.new.into.items (where_of c.args.at) (after_by (is_some c.args.second)) (c.args.c ∷ option_to_list c.args.second) c.names_for-id-items.result.now c.loop-id.id-index c.id-item.result
    c.loop-id-test.true (get_or_read _ c.loop-id.id-index c.id-item.result c.loop-id-test.true c.id-item.is 0) (c.loop-id.invariant u) c.in_err-add_name.was c.from_residual.ensures.0 (c.add_name.ensures u)

pub loop-id-preserved : goal.loop-id-preserved
loop-id-preserved c = λ u.
    names_more c.add_name.result _ c.args.table.now u c.args.into.now.items c.loop-id.into.items c.add_name.new.into.items (where_of c.args.at) (after_by (is_some c.args.second)) (c.args.c ∷ option_to_list c.args.second) c.names_for-id-items.result.now c.loop-id.id-index c.id-item.result
    c.loop-id-test.true (get_or_read _ c.loop-id.id-index c.id-item.result c.loop-id-test.true c.id-item.is 0) (c.loop-id.invariant u) c.in_ok-add_name.was (c.add_name.ensures u)

pub returns : goal.returns
returns c = λ u. names_done c.args.table.now u c.args.into.now.items c.loop-id.into.items (where_of c.args.at) (after_by (is_some c.args.second)) (c.args.c ∷ option_to_list c.args.second) c.names_for-id-items.result.now c.loop-id.id-index c.loop-id-test.false (c.loop-id.invariant u)
