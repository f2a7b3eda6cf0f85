use Rattle.std.proofs.lemmas.Result.{err_from_is_err_and}
use Rattle.hm_json_tree.proofs.streamed.read_events.Goals as goal

pub returns-in_err-finish-clause-fault : goal.returns-in_err-finish-clause-fault
returns-in_err-finish-clause-fault c =
    let p = err_from_is_err_and c.from_residual-in_err-finish.result c.from_residual-in_err-finish.ensures.1 in
    rw (p.1, p.2) (λ m. c.in_ok-take_events.ensures.read c.if-not-branch.false _ (c.in_err-finish.ensures.fault m))

pub returns-clause-tree : goal.returns-clause-tree
returns-clause-tree c = c.in_ok-take_events.ensures.read c.if-not-branch.false _ c.in_ok-finish.ensures.ok
