-- The shortest text of a tree, the certificate of its least prices, and what the two show.
use Rattle.std.specs.Prelude.{◌≡◌, ℕ, ◌+◌, List, length, Some}
use Rattle.hm_base.specs.Walks.{Event}
use Rattle.hm_base.specs.declared.plain.SpellRules.{SpellRules}
use Rattle.hm_cert.specs.Certificate.{AreRows, certificate_text}
use Rattle.hm_base.specs.declared.plain.Format.{Format}
use Rattle.hm_round_trip_laws.specs.Trees.{built, page_tree}
use Rattle.hm_graph_laws.specs.ExchangeLaws.{sparing_plain}
use Rattle.hm_graph_laws.specs.Layers.{first_layer}
use Rattle.hm_graph_laws.specs.Prices.{Row, Feasible, first_price, full, least_prices, written_rows}
use Rattle.hm_graph_laws.specs.UnitEdges.{edges_of}
use Rattle.hm_graph_laws.specs.Ways.{first_way}
use Rattle.hm_graph.specs.Graphs.{tree_edges}
use Rattle.hm_refs.specs.Names.{Entry}
use Rattle.hm_spelling_spec.specs.Spellings.{Shortest, Spells}
use Rattle.hm_optimality_laws.specs.Formats.{follows_by}
use Rattle.hm_graph_laws.specs.States.{first_state}
use Rattle.hm_graph_laws.specs.Units.{units_of}

-- the text of the first way
unfoldable pub shortest_text : List Entry → SpellRules → List Event → List ℕ
shortest_text t r w = first_way (edges_of (sparing_plain t r)) (units_of r w) first_state

-- the rows of the least prices that a certificate writes in a format
abbrev pub certified_rows : List Entry → SpellRules → Format → List Event → List Row
certified_rows t r format w =
    written_rows (tree_edges t r format) (follows_by format (tree_edges t r format)) 0 (units_of r w) first_layer (least_prices (tree_edges t r format) (units_of r w) first_layer)

-- the certificate of the least prices in a format
unfoldable pub certificate_of : List Entry → SpellRules → Format → List Event → List ℕ
certificate_of t r format w = certificate_text format r (certified_rows t r format w)

-- how many layers the graph has: one more than there are units
abbrev pub layer_count : SpellRules → List Event → ℕ
layer_count r w = length (units_of r w) + 1

-- The prices of a certificate can be written, so the certificate can be read, and they show by themselves that no way is
-- shorter than n bytes.
pub record Certifies (t : List Entry) (r : SpellRules) (format : Format) (w : List Event) (cert : List ℕ) (n : ℕ) : Type 0 where
  pub rows : List Row
  pub writable : AreRows rows
  pub text : cert ≡ certificate_text format r rows
  pub prices : List Row
  pub full : full (tree_edges t r format) (follows_by format (tree_edges t r format)) (units_of r w) rows ≡ Some prices
  pub feasible : Feasible (tree_edges t r format) (units_of r w) prices
  pub first : first_price prices ≡ Some n

-- The text parses to the tree, is a spelling of it, and no spelling is shorter; and the certificate, of this format, shows that
-- by its prices alone.
pub record IsShortest (t : List Entry) (r : SpellRules) (format : Format) (w : List Event) (out cert : List ℕ) : Type 0 where
  pub parses : page_tree t out ≡ built w
  pub spells : Spells t r w out
  pub shortest : Shortest t r w (length out)
  pub certified : Certifies t r format w cert (length out)
