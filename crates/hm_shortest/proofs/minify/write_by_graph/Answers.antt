use Rattle.std.proofs.Common.{◌∙◌, ◌+◌, ap, subst, sym}
use Rattle.hm_elements.specs.Settled.{Settled}
use Rattle.hm_cert.specs.Certificate.{AreRows}
use Rattle.hm_refs.specs.Tables.{IsTable}
use Rattle.hm_shortest.specs.Shortest.{certificate_of, certified_rows, layer_count, shortest_text}
use Rattle.hm_shortest.proofs.Graphs.{certificate_is, text_is_shortest, units_count}
use Rattle.hm_shortest.proofs.Written.{certified_readable}
use Rattle.hm_shortest.proofs.minify.write_by_graph.Goals as goal

pub returns-clause-made : goal.returns-clause-made
returns-clause-made c =
    let g = c.in_ok-graph.graph in
    let table : IsTable g.source.table.entries = subst (λ of. IsTable of.table.entries) (sym c.in_ok-graph.ensures) c.every_table.ensures.names in
    record {
      out = c.in_ok-out.ensures ∙ text_is_shortest g table c.every_graph.ensures.graph ∙ ap (λ of. shortest_text of.table.entries of.rules of.tree) c.in_ok-graph.ensures;
      certificate = c.in_ok-plan.ensures.certificate ∙ certificate_is g c.every_graph.ensures.graph ∙ ap (λ of. certificate_of of.table.entries of.rules of.format of.tree) c.in_ok-graph.ensures;
      layers = ap (λ n. n + 1) (c.len.ensures ∙ sym (units_count g c.every_graph.ensures.graph)) ∙ ap (λ of. layer_count of.rules of.tree) c.in_ok-graph.ensures;
    }

pub returns-clause-readable : goal.returns-clause-readable
returns-clause-readable c = λ s.
    let g = c.in_ok-graph.graph in
    let table : IsTable g.source.table.entries = subst (λ of. IsTable of.table.entries) (sym c.in_ok-graph.ensures) c.every_table.ensures.names in
    subst (λ of. AreRows (certified_rows of.table.entries of.rules of.format of.tree)) c.in_ok-graph.ensures
    (certified_readable g table c.every_graph.ensures.graph c.every_graph.ensures.few (subst (λ of. Settled of.tree) (sym c.in_ok-graph.ensures) s))
