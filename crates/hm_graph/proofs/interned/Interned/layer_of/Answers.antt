use Rattle.std.proofs.Common.{sym, subst}
use Rattle.hm_graph.specs.Layers.{IsLayer}
use Rattle.hm_graph.proofs.interned.Interned.layer_of.Goals as goal

pub returns : goal.returns
returns c =
    subst (λ A. A)
    (λ i. IsLayer (c.self.view_is i).table (c.self.view_is i).rules c.args.front.now.unit (c.list.ensures.states i) c.in_ok-hops.field-0.after.items (sym c.in_ok-step.ensures i))
    c.in_ok-hops.ensures
