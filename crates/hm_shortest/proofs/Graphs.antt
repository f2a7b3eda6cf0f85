-- What is found over the steps of a tree's graph is what the definitions say of its edges.
use Rattle.std.proofs.Common.{◌≡◌, ◌∙◌, ℕ, List, length, refl, ap}
use Rattle.hm_cert.specs.Certificate.{certificate_text}
use Rattle.hm_edges.specs.Pieces.{piece_bytes}
use Rattle.hm_edges.specs.declared.pieces.Piece.{Piece}
use Rattle.hm_graph_laws.specs.Layers.{first_layer}
use Rattle.hm_graph.specs.Graphs.{GraphView, IsGraph, source_edges}
use Rattle.hm_refs.specs.Tables.{IsTable}
use Rattle.hm_graph.proofs.FirstWays.{way_first}
use Rattle.hm_graph.proofs.Rows.{rows_least}
use Rattle.hm_graph.proofs.Ways.{steps_count}
use Rattle.hm_graph.proofs.Written.{written_agrees}
use Rattle.hm_graph.specs.Prices.{rows_of, written_rows}
use Rattle.hm_graph.specs.Ways.{way_from}
use Rattle.hm_graph_laws.specs.States.{first_state, same_state}
use Rattle.hm_graph_laws.specs.Units.{Unit, units_of}
use Rattle.hm_shortest.specs.Shortest.{certificate_of, shortest_text}
use Rattle.hm_optimality_laws.proofs.Formats.{same_text}

-- the way from the first state
pub text_is_shortest : (g : GraphView) → IsTable g.source.table.entries → IsGraph g
    → way_from (piece_bytes g.source.table.entries) g.last (units_of g.source.rules g.source.tree) g.steps 0 ≡ shortest_text g.source.table.entries g.source.rules g.source.tree
unfolding shortest_text same_state
text_is_shortest g k h =
    way_first (source_edges g.source) (piece_bytes g.source.table.entries) (units_of g.source.rules g.source.tree) first_layer g.steps g.last first_state 0 h.fits refl
    ∙ same_text g.source.table.entries k g.source.rules g.source.format g.source.tree

-- the rows that are written
pub certificate_is : (g : GraphView) → IsGraph g
    → certificate_text g.source.format g.source.rules (written_rows g.source.format 0 g.steps (rows_of g.last g.steps)) ≡ certificate_of g.source.table.entries g.source.rules g.source.format g.source.tree
unfolding certificate_of
certificate_is g h =
    let of = g.source in
    let units : List Unit = units_of of.rules of.tree in
    let bytes : Unit → Piece → List ℕ = piece_bytes of.table.entries in
    ap (λ rows. certificate_text of.format of.rules (written_rows of.format 0 g.steps rows)) (rows_least (source_edges of) bytes units first_layer g.steps g.last h.fits)
    ∙ ap (certificate_text of.format of.rules) (written_agrees (source_edges of) bytes units first_layer g.steps g.last of.format 0 _ h.fits)

-- there is a step for each unit
pub units_count : (g : GraphView) → IsGraph g → length (units_of g.source.rules g.source.tree) ≡ length g.steps
units_count g h = steps_count (source_edges g.source) (piece_bytes g.source.table.entries) (units_of g.source.rules g.source.tree) first_layer g.steps g.last h.fits
