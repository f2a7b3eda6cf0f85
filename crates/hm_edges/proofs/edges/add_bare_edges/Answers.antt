use Rattle.std.proofs.Common.{◌∷◌, [], ap}
use Rattle.hm_edges.proofs.Adding.{adds_one, adds_as}
use Rattle.hm_edges.proofs.TagBytes.{gap_is}
use Rattle.hm_edges.specs.States.{where_of}
use Rattle.hm_graph_laws.specs.Edges.{edge}
use Rattle.hm_graph_laws.specs.States as states
use Rattle.hm_edges.proofs.edges.add_bare_edges.Goals as goal

pub returns : goal.returns
returns c = λ v n.
    adds_as _ _ _ _ _ _ _ (ap (λ b. edge b states.after_name states.nothing ∷ []) (gap_is c.args.tight _ (where_of c.args.from.at) n c.has_gap-gap.ensures))
    (adds_one _ _ _ _ _ _ c.add.ensures (record { name = tt; nodes = tt }))
