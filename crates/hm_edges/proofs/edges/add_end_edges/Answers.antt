use Rattle.std.proofs.Common.{cond, ◌∷◌, [], ap}
use Rattle.hm_edges.proofs.Adding.{adds_one, adds_if, adds_then, adds_stopped, adds_as}
use Rattle.hm_graph_laws.specs.Edges.{edge_to}
use Rattle.hm_edges.proofs.edges.add_end_edges.Goals as goal

pub returns-then-is_self_closed : goal.returns-then-is_self_closed
returns-then-is_self_closed c = λ v n has. rw (← c.is_self_closed.ensures, c.if-is_self_closed.true) (adds_one _ _ _ _ _ _ c.add.ensures (record { name = tt; nodes = tt }))

pub returns-in_err-add_if : goal.returns-in_err-add_if
returns-in_err-add_if c = λ v n has.
    rw (← c.is_self_closed.ensures, c.if-is_self_closed.false)
    (adds_stopped _ _ _ _ _ _ _ _ _ c.in_err-add_if.was c.from_residual.ensures.0
    (adds_as _ _ _ _ _ _ _ (ap (λ s. cond c.args.omits (edge_to [] s ∷ []) []) (c.after_left_out-to.ensures.state v)) (adds_if _ _ _ _ _ _ _ c.add_if.ensures (λ _. record { name = tt; nodes = c.after_left_out-to.ensures.nodes v has }))))

pub returns : goal.returns
returns c = λ v n has.
    rw (← c.is_self_closed.ensures, c.if-is_self_closed.false)
    (adds_then _ _ _ _ _ _ _ _ _ _ c.in_ok-add_if.was
    (adds_as _ _ _ _ _ _ _ (ap (λ s. cond c.args.omits (edge_to [] s ∷ []) []) (c.after_left_out-to.ensures.state v)) (adds_if _ _ _ _ _ _ _ c.add_if.ensures (λ _. record { name = tt; nodes = c.after_left_out-to.ensures.nodes v has })))
    (adds_one _ _ _ _ _ _ c.add-2.ensures (record { name = tt; nodes = tt })))
