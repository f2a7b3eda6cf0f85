-- A step: the edges of a unit from each state of a layer, by numbers alone.
use Rattle.std.specs.Prelude.{Bool, false, ◌&&◌, List}
use Rattle.std.specs.List.{list_all}
use Rattle.hm_base.specs.declared.plain.Format.{Format}
use Rattle.hm_base.specs.declared.plain.Format.TheVariants.{Full, Compact, Sparse}
use Rattle.hm_graph_laws.specs.Layers.{is_single}
use Rattle.hm_graph.specs.declared.hops.Hop.{Hop}

-- for each state before it, its hops (arcs) in the order of its edges
abbrev pub Step : Type 0
Step = List (List Hop)

-- each state has one hop, so that there is nothing to choose
abbrev pub is_forced : Step → Bool
is_forced step = list_all is_single step

-- one state with one hop
abbrev pub is_single_step : Step → Bool
is_single_step step = is_single step && is_forced step

-- whether a certificate of a format leaves out the layer before a step, where that isn't the first one
abbrev pub leaves_out : Format → Step → Bool
leaves_out Full step = false
leaves_out Compact step = is_single_step step
leaves_out Sparse step = is_forced step
