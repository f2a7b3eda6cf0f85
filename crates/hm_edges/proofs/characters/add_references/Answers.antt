use Rattle.hm_edges.proofs.Adding.{adds_then, adds_stopped, adds_as}
use Rattle.hm_edges.proofs.Choices.{references_are}
use Rattle.hm_edges.specs.States.{where_of}
use Rattle.hm_edges.proofs.characters.add_references.Goals as goal

pub returns-in_err-add_names : goal.returns-in_err-add_names
returns-in_err-add_names c = λ u. adds_as _ _ _ _ _ _ _ (references_are (where_of c.args.at) c.args.table.now.entries c.args.c c.args.pair)
    (adds_stopped _ _ _ _ _ _ _ _ _ c.in_err-add_names.was c.from_residual.ensures.0 (c.add_names.ensures u))

pub returns-in_err-add_pairs : goal.returns-in_err-add_pairs
returns-in_err-add_pairs c = λ u. adds_as _ _ _ _ _ _ _ (references_are (where_of c.args.at) c.args.table.now.entries c.args.c c.args.pair)
    (adds_then _ _ _ _ _ _ _ _ _ _ c.in_ok-add_names.was (c.add_names.ensures u)
    (adds_stopped _ _ _ _ _ _ _ _ _ c.in_err-add_pairs.was c.from_residual-in_err-add_pairs.ensures.0 (c.add_pairs.ensures u)))

pub returns-in_err-add_decimals : goal.returns-in_err-add_decimals
returns-in_err-add_decimals c = λ u. adds_as _ _ _ _ _ _ _ (references_are (where_of c.args.at) c.args.table.now.entries c.args.c c.args.pair)
    (adds_then _ _ _ _ _ _ _ _ _ _ c.in_ok-add_names.was (c.add_names.ensures u)
    (adds_then _ _ _ _ _ _ _ _ _ _ c.in_ok-add_pairs.was (c.add_pairs.ensures u)
    (adds_stopped _ _ _ _ _ _ _ _ _ c.in_err-add_decimals.was c.from_residual-in_err-add_decimals.ensures.0 (c.add_decimals.ensures c.args.table.now u))))

pub returns : goal.returns
returns c = λ u. adds_as _ _ _ _ _ _ _ (references_are (where_of c.args.at) c.args.table.now.entries c.args.c c.args.pair)
    (adds_then _ _ _ _ _ _ _ _ _ _ c.in_ok-add_names.was (c.add_names.ensures u)
    (adds_then _ _ _ _ _ _ _ _ _ _ c.in_ok-add_pairs.was (c.add_pairs.ensures u)
    (adds_then _ _ _ _ _ _ _ _ _ _ c.in_ok-add_decimals.was (c.add_decimals.ensures c.args.table.now u) (c.add_hexadecimals.ensures c.args.table.now u))))
