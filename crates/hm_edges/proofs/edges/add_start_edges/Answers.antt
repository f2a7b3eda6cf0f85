use Rattle.std.proofs.Common.{cond, ◌∷◌, [], ap, ap₂}
use Rattle.hm_edges.proofs.Adding.{adds_one, adds_if, adds_then, adds_stopped, adds_as}
use Rattle.hm_edges.specs.States.{pending_of}
use Rattle.hm_graph_laws.specs.Edges.{edge_to}
use Rattle.hm_graph_laws.specs.States.{state}
use Rattle.hm_edges.proofs.edges.add_start_edges.Goals as goal

pub returns-in_err-add_if : goal.returns-in_err-add_if
returns-in_err-add_if c = λ v n has.
    adds_stopped _ _ _ _ _ _ _ _ _ c.in_err-add_if.was c.from_residual.ensures.0
    (adds_as _ _ _ _ _ _ _ (ap₂ (λ b s. cond b (edge_to [] s ∷ []) []) c.may_fall-falls.ensures (ap (λ w. state w (pending_of v c.args.from.pending)) c.omission_forgotten.ensures)) (adds_if _ _ _ _ _ _ _ c.add_if.ensures (λ _. record { name = tt; nodes = has })))

pub returns-in_err-add : goal.returns-in_err-add
returns-in_err-add c = λ v n has.
    adds_then _ _ _ _ _ _ _ _ _ _ c.in_ok-add_if.was
    (adds_as _ _ _ _ _ _ _ (ap₂ (λ b s. cond b (edge_to [] s ∷ []) []) c.may_fall-falls.ensures (ap (λ w. state w (pending_of v c.args.from.pending)) c.omission_forgotten.ensures)) (adds_if _ _ _ _ _ _ _ c.add_if.ensures (λ _. record { name = tt; nodes = has })))
    (adds_stopped _ _ _ _ _ _ _ _ _ c.in_err-add.was c.from_residual-in_err-add.ensures.0 (adds_one _ _ _ _ _ _ c.add.ensures (record { name = tt; nodes = tt })))

pub returns : goal.returns
returns c = λ v n has.
    adds_then _ _ _ _ _ _ _ _ _ _ c.in_ok-add_if.was
    (adds_as _ _ _ _ _ _ _ (ap₂ (λ b s. cond b (edge_to [] s ∷ []) []) c.may_fall-falls.ensures (ap (λ w. state w (pending_of v c.args.from.pending)) c.omission_forgotten.ensures)) (adds_if _ _ _ _ _ _ _ c.add_if.ensures (λ _. record { name = tt; nodes = has })))
    (adds_then _ _ _ _ _ _ _ _ _ _ c.in_ok-add.was (adds_one _ _ _ _ _ _ c.add.ensures (record { name = tt; nodes = tt }))
    (adds_if _ _ _ _ _ _ _ c.add_if-2.ensures (λ _. record { name = tt; nodes = tt })))
