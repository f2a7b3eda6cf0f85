use Rattle.std.proofs.Common.{◌≡◌, ◌∙◌, ◌++◌, ◌∷◌, [], map, sym, ap, subst}
use Rattle.std.proofs.lemmas.List.{map-append}
use Rattle.hm_graph.specs.Layers.{IsLayer}
use Rattle.hm_graph.specs.Steps.{Step}
use Rattle.hm_graph.proofs.layer.add_state.Goals as goal

pub returns : goal.returns
returns c = λ before is.
    let step : Step = map (λ hops. hops.items) c.args.layer.now.hops.items in
    let longer : map (λ hops. hops.items) c.push.new.self.items ≡ step ++ c.in_ok-hops.hops.items ∷ [] =
    ap (map (λ hops. hops.items)) c.in_ok-push.ensures.items ∙ map-append (λ hops. hops.items) c.args.layer.now.hops.items (c.in_ok-hops.hops ∷ []) in
    subst (IsLayer c.args.table.now c.args.rules c.args.unit (before ++ c.args.from ∷ []) c.hops_from.new.after.items) (sym longer) (c.in_ok-hops.ensures before step is)
