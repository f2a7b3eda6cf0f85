use Rattle.std.proofs.Common.{◌≡◌, ◌∙◌, ap, subst}
use Rattle.hm_cert.specs.Layout.{told}
use Rattle.hm_edges.specs.Pieces.{piece_bytes}
use Rattle.hm_graph.proofs.Rows.{rows_least}
use Rattle.hm_graph.specs.Graphs.{GraphSource, source_edges}
use Rattle.hm_graph_laws.proofs.LeastPrices.{first_least}
use Rattle.hm_graph_laws.specs.Layers.{first_layer}
use Rattle.hm_graph_laws.specs.Prices.{first_price}
use Rattle.hm_graph_laws.specs.States.{first_state}
use Rattle.hm_graph_laws.specs.Units.{units_of}
use Rattle.hm_graph_laws.specs.Ways.{least}
use Rattle.hm_shortest.proofs.least.least_price.Goals as goal

pub returns : goal.returns
returns c =
    let g = c.in_ok-graph.graph in
    let units = units_of g.source.rules g.source.tree in
    subst (λ (of : GraphSource). told c.in_ok-plan.plan.first ≡ least (source_edges of) (units_of of.rules of.tree) first_state) c.in_ok-graph.ensures
    (c.in_ok-plan.ensures.first
    ∙ ap first_price (rows_least (source_edges g.source) (piece_bytes g.source.table.entries) units first_layer g.steps g.last c.every_graph.ensures.graph.fits)
    ∙ first_least (source_edges g.source) units)
