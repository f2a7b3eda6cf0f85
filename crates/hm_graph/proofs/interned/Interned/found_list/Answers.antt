use Rattle.std.proofs.Common.{IfSome, subst}
use Rattle.hm_graph.specs.Interned.{IsListOf}
use Rattle.hm_graph.proofs.Lists.{some_list}
use Rattle.hm_graph.proofs.interned.Interned.found_list.Goals as goal

pub returns : goal.returns
returns c =
    let i = c.self.inside in
    subst (λ m. IfSome c.number_of.result (IsListOf m c.args.states.now.items)) c.self.view_is
    (some_list (λ l. l.items) i.table.now i.rules i.lists.items c.as_slice.result.now i.steps.items c.args.states.now.items c.as_slice-2.result.now c.args.states.now c.number_of.result c.as_slice.ensures.value c.as_slice-2.ensures c.number_of.ensures.there c.number_of.ensures.list)
