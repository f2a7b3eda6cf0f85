use Rattle.std.proofs.Common.{cond, ◌∷◌, [], ap}
use Rattle.hm_edges.proofs.Adding.{adds_one, adds_if, adds_then, adds_stopped, adds_as}
use Rattle.hm_edges.proofs.TagBytes.{close_is}
use Rattle.hm_edges.specs.States.{where_of}
use Rattle.hm_graph_laws.specs.Edges.{edge}
use Rattle.hm_graph_laws.specs.States as states
use Rattle.hm_edges.proofs.edges.add_close_edges.Goals as goal

pub returns-in_err-add : goal.returns-in_err-add
returns-in_err-add c = λ v. adds_stopped _ _ _ _ _ _ _ _ _ c.in_err-add.was c.from_residual.ensures.0 (adds_one _ _ _ _ _ _ c.add.ensures (record { name = tt; nodes = tt }))

pub returns : goal.returns
returns c = λ v.
    adds_then _ _ _ _ _ _ _ _ _ _ c.in_ok-add.was (adds_one _ _ _ _ _ _ c.add.ensures (record { name = tt; nodes = tt }))
    (adds_as _ _ _ _ _ _ _ (ap (λ b. cond c.args.closes (edge b states.self_closed states.nothing ∷ []) []) (close_is _ (where_of c.args.from.at) c.is_after_unquoted-space.ensures))
    (adds_if _ _ _ _ _ _ _ c.add_if.ensures (λ _. record { name = tt; nodes = tt })))
