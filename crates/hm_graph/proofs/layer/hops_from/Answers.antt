use Rattle.std.proofs.Common.{◌++◌, ◌∷◌, [], List, subst}
use Rattle.std.proofs.lemmas.Result.{IfOk-weaker}
use Rattle.hm_edges.specs.declared.states.State.{State}
use Rattle.hm_graph.specs.Layers.{AreHops, IsLayer}
use Rattle.hm_graph.specs.Steps.{Step}
use Rattle.hm_graph.proofs.Layers.{layer_next}
use Rattle.hm_graph.proofs.layer.hops_from.Goals as goal

pub returns : goal.returns
returns c =
    let v = c.args.table.now in
    let front = c.args.after.now.items in
    let now = c.hops_of.new.after.items in
    IfOk-weaker c.hops_of.result (λ hops. AreHops v c.args.unit c.as_slice.result.now front now hops.items)
    (λ hops. (before : List State) (step : Step) → IsLayer v c.args.rules c.args.unit before front step → IsLayer v c.args.rules c.args.unit (before ++ c.args.from ∷ []) now (step ++ hops.items ∷ []))
    (λ hops are before step is.
    layer_next v c.args.rules c.args.unit before front now c.args.from c.in_ok-edges.edges.items step hops.items is c.in_ok-edges.ensures.edges (subst (λ es. AreHops v c.args.unit es front now hops.items) c.as_slice.ensures.value are))
    c.hops_of.ensures
