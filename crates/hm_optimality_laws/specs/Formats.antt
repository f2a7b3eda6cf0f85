-- What the format of a certificate says of a graph: which edges it has, and which layers are left out.
use Rattle.std.specs.Prelude.{List}
use Rattle.hm_base.specs.declared.plain.Format.{Format}
use Rattle.hm_base.specs.declared.plain.Format.TheVariants.{Full, Compact, Sparse}
use Rattle.hm_graph_laws.specs.Layers.{LayerTest, nothing_follows, single_follows}
use Rattle.hm_graph_laws.specs.Ways.{Edges}
use Rattle.hm_graph_laws.specs.Units.{Unit}
use Rattle.hm_optimality_laws.specs.Dominated.{dominance, forced_follows, kept_edges}
use Rattle.hm_graph_laws.specs.Edges.{Edge}
use Rattle.hm_refs.specs.Names.{Entry}

-- which edges of a unit from a state are in the graph by a table: all of them, or those that no other one dominates
abbrev pub kept_by : Format → List Entry → Unit → List Edge → List Edge
kept_by Full t unit es = es
kept_by Compact t unit es = es
kept_by Sparse t unit es = kept_edges (dominance t) unit es

abbrev pub edges_by : Format → List Entry → Edges → Edges
edges_by format t edges unit s = kept_by format t unit (edges unit s)

-- the layers that are left out: none, those of one state with one edge, or those in which each state has one edge
abbrev pub follows_by : Format → Edges → LayerTest
follows_by Full edges = nothing_follows
follows_by Compact edges = single_follows edges
follows_by Sparse edges = forced_follows edges
