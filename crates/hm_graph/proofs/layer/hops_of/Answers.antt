use Rattle.std.proofs.Common.{◌≡◌, ◌∙◌, ◌+◌, List, ◌∷◌, ◌++◌, [], take, sym, ap, subst}
use Rattle.std.proofs.lemmas.List.{take_all, take_more}
use Rattle.hm_edges.specs.declared.pieces.Edge.{Edge}
use Rattle.hm_graph.specs.declared.hops.Hop.{Hop}
use Rattle.hm_graph.specs.Layers.{AreHops}
use Rattle.hm_graph.proofs.Layers.{hops_more}
use Rattle.hm_graph.proofs.layer.hops_of.Goals as goal

pub loop-edge-preserved : goal.loop-edge-preserved
loop-edge-preserved c =
    let before : List Edge = take c.loop-edge.edge-index c.args.edges.now in
    let more : take (c.loop-edge.edge-index + 1) c.args.edges.now ≡ before ++ c.edge-item.result ∷ [] =
    take_more c.args.edges.now c.loop-edge.edge-index c.edge-item.result c.loop-edge-test.true ∙ ap (λ e. before ++ e ∷ []) (sym c.edge-item.is) in
    subst (λ es. AreHops c.args.table.now c.args.unit es c.args.after.now.items c.hop_of.new.after.items c.push.new.self.items) (sym more)
    (subst (λ hops. AreHops c.args.table.now c.args.unit (before ++ c.edge-item.result ∷ []) c.args.after.now.items c.hop_of.new.after.items hops) (sym {A = List Hop} c.in_ok-push.ensures.items)
    (hops_more c.args.table.now c.args.unit before c.edge-item.result c.args.after.now.items c.loop-edge.after.items c.hop_of.new.after.items c.loop-edge.hops.items c.in_ok-hop_of.field-0 c.loop-edge.invariant c.in_ok-hop_of.ensures))

pub returns : goal.returns
returns c = subst (λ es. AreHops c.args.table.now c.args.unit es c.args.after.now.items c.loop-edge.after.items c.loop-edge.hops.items) (take_all c.loop-edge.edge-index c.args.edges.now c.loop-edge-test.false) c.loop-edge.invariant
