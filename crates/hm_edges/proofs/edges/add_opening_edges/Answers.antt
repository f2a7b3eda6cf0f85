use Rattle.std.proofs.Common.{cond, ◌∷◌, [], ◌++◌, codes, ap}
use Rattle.hm_edges.proofs.Adding.{adds_one, adds_if, adds_then, adds_stopped, adds_as}
use Rattle.hm_edges.proofs.TagBytes.{gap_is}
use Rattle.hm_edges.specs.States.{where_of}
use Rattle.hm_graph_laws.specs.Edges.{edge}
use Rattle.hm_graph_laws.specs.States as states
use Rattle.hm_edges.proofs.edges.add_opening_edges.Goals as goal

pub returns-in_err-add_if : goal.returns-in_err-add_if
returns-in_err-add_if c = λ v n value.
    adds_stopped _ _ _ _ _ _ _ _ _ c.in_err-add_if.was c.from_residual.ensures.0
    (adds_as _ _ _ _ _ _ _ (ap (λ b. cond c.args.unquote (edge b states.in_unquoted states.nothing ∷ []) []) (gap_is c.args.tight _ (where_of c.args.from.at) (n ++ codes "=") c.has_gap-gap.ensures))
    (adds_if _ _ _ _ _ _ _ c.add_if.ensures (λ _. record { name = tt; nodes = tt })))

pub returns-in_err-add : goal.returns-in_err-add
returns-in_err-add c = λ v n value.
    adds_then _ _ _ _ _ _ _ _ _ _ c.in_ok-add_if.was
    (adds_as _ _ _ _ _ _ _ (ap (λ b. cond c.args.unquote (edge b states.in_unquoted states.nothing ∷ []) []) (gap_is c.args.tight _ (where_of c.args.from.at) (n ++ codes "=") c.has_gap-gap.ensures))
    (adds_if _ _ _ _ _ _ _ c.add_if.ensures (λ _. record { name = tt; nodes = tt })))
    (adds_stopped _ _ _ _ _ _ _ _ _ c.in_err-add.was c.from_residual-in_err-add.ensures.0
    (adds_as _ _ _ _ _ _ _ (ap (λ b. edge b states.in_double states.nothing ∷ []) (gap_is c.args.tight _ (where_of c.args.from.at) (n ++ codes "=\"") c.has_gap-gap.ensures))
    (adds_one _ _ _ _ _ _ c.add.ensures (record { name = tt; nodes = tt }))))

pub returns : goal.returns
returns c = λ v n value.
    adds_then _ _ _ _ _ _ _ _ _ _ c.in_ok-add_if.was
    (adds_as _ _ _ _ _ _ _ (ap (λ b. cond c.args.unquote (edge b states.in_unquoted states.nothing ∷ []) []) (gap_is c.args.tight _ (where_of c.args.from.at) (n ++ codes "=") c.has_gap-gap.ensures))
    (adds_if _ _ _ _ _ _ _ c.add_if.ensures (λ _. record { name = tt; nodes = tt })))
    (adds_then _ _ _ _ _ _ _ _ _ _ c.in_ok-add.was
    (adds_as _ _ _ _ _ _ _ (ap (λ b. edge b states.in_double states.nothing ∷ []) (gap_is c.args.tight _ (where_of c.args.from.at) (n ++ codes "=\"") c.has_gap-gap.ensures))
    (adds_one _ _ _ _ _ _ c.add.ensures (record { name = tt; nodes = tt })))
    (adds_as _ _ _ _ _ _ _ (ap (λ b. edge b states.in_single states.nothing ∷ []) (gap_is c.args.tight _ (where_of c.args.from.at) (n ++ codes "='") c.has_gap-gap.ensures))
    (adds_one _ _ _ _ _ _ c.add-2.ensures (record { name = tt; nodes = tt }))))
