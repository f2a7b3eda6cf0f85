use Rattle.std.proofs.Common.{◌≡◌, ◌∙◌, ◌<◌, [], length, map, sym, ap, subst}
use Rattle.hm_graph.specs.Layers.{HaveNodes}
use Rattle.hm_graph.specs.Interned.{list_at}
use Rattle.hm_graph.proofs.Lists.{memo_at}
use Rattle.hm_graph.proofs.interned.Interned.list.Goals as goal

pub returns-clause-nodes : goal.returns-clause-nodes
returns-clause-nodes c =
    let inside : c.args.list < length (map (λ l. l.items) c.self.inside.lists.items) = subst (λ m. c.args.list < length m.lists) (sym c.self.view_is) c.requires in
    let read : c.as_slice.result.now ≡ list_at c.args.self.now c.args.list =
    c.as_slice.ensures ∙ memo_at (λ l. l.items) c.self.inside.lists.items c.args.list c.index.result.now [] inside c.index.ensures ∙ ap (λ m. list_at m c.args.list) c.self.view_is in
    subst (HaveNodes c.args.self.now.table) (sym read) (subst (λ m. HaveNodes m.table (list_at m c.args.list)) c.self.view_is (c.self.invariant.0.nodes c.args.list))
