-- What a graph in code shows.
use Rattle.std.specs.Prelude.{ℕ, ◌<◌, ◌^◌, List, [], ◌∷◌, length, slice_index_or, map, Option, Some, None}
use Rattle.std.specs.List.{All}
use Rattle.hm_base.specs.Walks.{Event}
use Rattle.hm_base.specs.declared.plain.SpellRules.{SpellRules}
use Rattle.hm_base.specs.declared.plain.Format.{Format}
use Rattle.hm_graph_laws.specs.Ways.{Edges}
use Rattle.hm_refs.specs.Names.{Entry}
use Rattle.hm_refs.specs.Tables.{TableView}
use Rattle.hm_optimality_laws.specs.Formats.{edges_by}
use Rattle.hm_graph_laws.specs.Units.{units_of}
use Rattle.hm_graph_laws.specs.Layers.{first_layer}
use Rattle.hm_graph_laws.specs.UnitEdges.{edges_of}
use Rattle.hm_graph_laws.specs.ExchangeLaws.{sparing_plain}
use Rattle.hm_edges.specs.Pieces.{HasName, piece_bytes}
use Rattle.hm_graph.specs.Fits.{StepsFit}
use Rattle.hm_graph.specs.Steps.{Step}
use Rattle.hm_graph.specs.declared.hops.Hop.{Hop}
use Rattle.hm_graph.specs.Runs.{IsAt, unroll}
use Rattle.hm_graph.specs.declared.graph.Cursor.{Cursor}
use Rattle.hm_graph.specs.declared.numbers.Run.{Run}

-- what a graph is of: a tree, a table of names, the rules by which the tree may be written, and the format of certificates
pub record GraphSource : Type 0 where
  pub tree : List Event
  pub table : TableView
  pub rules : SpellRules
  pub format : Format

-- what it is of, the steps between its layers, the runs of equal ones, and how many states the last layer has
pub record GraphView : Type 0 where
  pub source : GraphSource
  pub steps : List Step
  pub runs : List Run
  pub last : ℕ

-- the cursor stands at its layer
abbrev pub IsPlace : GraphView → Cursor → Type 0
IsPlace g c = IsAt g.runs c.run c.used c.layer

-- the steps of these numbers
abbrev pub spread : List Step → List ℕ → List Step
spread steps numbers = map (λ n. slice_index_or steps n []) numbers

-- the graph with the steps of the numbers of these runs
abbrev pub graph_view : GraphSource → List Step → List Run → ℕ → GraphView
graph_view source steps runs last = record { source = source; steps = spread steps (unroll runs); runs = runs; last = last }

abbrev pub one_of : List Hop → Option Hop
one_of [] = None
one_of (h ∷ []) = Some h
one_of (h ∷ g ∷ hops) = None

-- the hop of a step of one state with one hop
abbrev pub only_hop : Step → Option Hop
only_hop [] = None
only_hop (hops ∷ []) = one_of hops
only_hop (hops ∷ more ∷ step) = None

-- each number is that of a step
abbrev pub AreNumbers : List Step → List ℕ → Type 0
AreNumbers steps numbers = All (λ n. n < length steps) numbers

-- ---- No edge writes too much

abbrev pub AreLowHops : List Hop → Type 0
AreLowHops [] = Prim.Unit {0}
AreLowHops (h ∷ hops) = (h.len < 2 ^ 33) × AreLowHops hops

abbrev pub IsLowStep : Step → Type 0
IsLowStep [] = Prim.Unit {0}
IsLowStep (hops ∷ step) = AreLowHops hops × IsLowStep step

abbrev pub AreLow : List Step → Type 0
AreLow [] = Prim.Unit {0}
AreLow (step ∷ steps) = IsLowStep step × AreLow steps

-- ---- Names in pieces are of the table

abbrev pub AreNamedHops : List Entry → List Hop → Type 0
AreNamedHops t [] = Prim.Unit {0}
AreNamedHops t (h ∷ hops) = HasName t h.piece × AreNamedHops t hops

abbrev pub IsNamedStep : List Entry → Step → Type 0
IsNamedStep t [] = Prim.Unit {0}
IsNamedStep t (hops ∷ step) = AreNamedHops t hops × IsNamedStep t step

abbrev pub AreNamed : List Entry → List Step → Type 0
AreNamed t [] = Prim.Unit {0}
AreNamed t (step ∷ steps) = IsNamedStep t step × AreNamed t steps

-- ---- Steps of a tree

-- the edges by a table and these rules, as far as a format's graph has them
abbrev pub tree_edges : List Entry → SpellRules → Format → Edges
tree_edges t rules format = edges_by format t (edges_of (sparing_plain t rules))

-- the edges of what a graph is of
abbrev pub source_edges : GraphSource → Edges
source_edges of = tree_edges of.table.entries of.rules of.format

-- the steps are those of the units of the tree, and no edge writes too much
pub record IsGraph (g : GraphView) : Type 0 where
  pub fits : StepsFit (source_edges g.source) (piece_bytes g.source.table.entries) (units_of g.source.rules g.source.tree) first_layer g.steps g.last
  pub named : AreNamed g.source.table.entries g.steps
  pub low : AreLow g.steps
