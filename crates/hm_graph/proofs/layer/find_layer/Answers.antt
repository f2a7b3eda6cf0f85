use Rattle.std.proofs.Common.{◌≡◌, ◌∙◌, ◌+◌, List, ◌∷◌, ◌++◌, [], take, map, sym, ap, subst}
use Rattle.std.proofs.lemmas.List.{take_all, take_more}
use Rattle.hm_edges.specs.States.{HasNodes}
use Rattle.hm_edges.specs.declared.states.State.{State}
use Rattle.hm_graph.specs.Layers.{IsLayer}
use Rattle.hm_graph.proofs.Places.{node_at}
use Rattle.hm_graph.proofs.layer.find_layer.Goals as goal

pub add_state-requires-clause-node : goal.add_state-requires-clause-node
add_state-requires-clause-node c =
    subst (λ s. HasNodes c.args.table.now s.pending) (sym c.state-item.is) (node_at c.args.table.now c.args.from.now c.loop-state.state-index c.state-item.result c.requires c.loop-state-test.true)

pub loop-state-preserved : goal.loop-state-preserved
loop-state-preserved c =
    let before : List State = take c.loop-state.state-index c.args.from.now in
    let more : take (c.loop-state.state-index + 1) c.args.from.now ≡ before ++ c.state-item.result ∷ [] =
    take_more c.args.from.now c.loop-state.state-index c.state-item.result c.loop-state-test.true ∙ ap (λ s. before ++ s ∷ []) (sym c.state-item.is) in
    subst (λ from. IsLayer c.args.table.now c.args.rules c.args.unit from c.add_state.new.layer.after.items (map (λ hops. hops.items) c.add_state.new.layer.hops.items)) (sym more) (c.in_ok-add_state.ensures before c.loop-state.invariant)

pub returns : goal.returns
returns c =
    subst (λ from. IsLayer c.args.table.now c.args.rules c.args.unit from c.loop-state.layer.after.items (map (λ hops. hops.items) c.loop-state.layer.hops.items)) (take_all c.loop-state.state-index c.args.from.now c.loop-state-test.false) c.loop-state.invariant
