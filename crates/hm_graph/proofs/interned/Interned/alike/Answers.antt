use Rattle.std.proofs.Common.{take, true, map, sym, subst}
use Rattle.std.specs.List.{All}
use Rattle.hm_graph.specs.Interned.{IsRow, Leads, InternedView}
use Rattle.hm_graph.proofs.Lists.{interned}
use Rattle.hm_graph.proofs.interned.Interned.alike.Goals as goal

pub returns-in-Some-clause-leads : goal.returns-in-Some-clause-leads
returns-in-Some-clause-leads c =
    let m : InternedView = interned c.self.inside.table.now c.self.inside.rules (map (λ l. l.items) c.self.inside.lists.items) c.self.inside.steps.items in
    let row : IsRow m true c.in-Some.row.now = c.in-Some.ensures.row m true (subst (All (IsRow m true)) (sym c.as_slice.ensures.value) c.self.invariant.3) in
    let leads : All (Leads c.args.self.now c.in-Some.row.now.list c.in-Some.row.now.kind true c.alike.result.to) (take c.alike.result.count c.args.text.now) =
    subst (λ w. All (Leads w c.in-Some.row.now.list c.in-Some.row.now.kind true c.alike.result.to) (take c.alike.result.count c.args.text.now)) c.self.view_is (c.alike.ensures.leads m true row) in
    subst (λ k. All (Leads c.args.self.now c.args.list k true c.alike.result.to) (take c.alike.result.count c.args.text.now)) c.in-Some.ensures.kind
    (subst (λ l. All (Leads c.args.self.now l c.in-Some.row.now.kind true c.alike.result.to) (take c.alike.result.count c.args.text.now)) c.in-Some.ensures.list leads)
