use Rattle.std.proofs.Common.{◌∙◌}
use Rattle.std.proofs.lemmas.Result.{IfOk-weaker}
use Rattle.hm_html_names.proofs.Alike.{cut_alike, entries_alike, order_alike, ready_alike, html_is}
use Rattle.hm_html_names.proofs.Computing.{cut, is_in_order, is_ready}
use Rattle.hm_html_names.proofs.html_table.Goals as goal

pub ready-requires-clause-cut : goal.ready-requires-clause-cut
ready-requires-clause-cut c = cut_alike _ _ _ _ c.ready_names.ensures.text c.ready_names.ensures.lengths cut

pub ready-requires-clause-ready : goal.ready-requires-clause-ready
ready-requires-clause-ready c =
    let entries = entries_alike _ _ _ _ _ _ _ _ c.ready_names.ensures.text c.ready_names.ensures.lengths c.ready_names.ensures.firsts c.ready_names.ensures.seconds in
    ready_alike _ _ _ _ _ _ _ _ _ _ _ _ entries c.ready_nodes.ensures.names c.ready_nodes.ensures.depths c.ready_nodes.ensures.bytes c.ready_nodes.ensures.counts c.ready_nodes.ensures.places is_ready

pub ready-requires-clause-index : goal.ready-requires-clause-index
ready-requires-clause-index c =
    let entries = entries_alike _ _ _ _ _ _ _ _ c.ready_names.ensures.text c.ready_names.ensures.lengths c.ready_names.ensures.firsts c.ready_names.ensures.seconds in
    order_alike _ _ _ _ _ _ entries c.ready_index.ensures.points c.ready_index.ensures.names is_in_order

pub returns : goal.returns
returns c =
    let entries = entries_alike _ _ _ _ _ _ _ _ c.ready_names.ensures.text c.ready_names.ensures.lengths c.ready_names.ensures.firsts c.ready_names.ensures.seconds in
    IfOk-weaker c.ready.result _ _ (λ table h. h ∙ entries ∙ html_is) c.ready.ensures
