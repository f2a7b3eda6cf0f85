use Rattle.hm_refs.specs.Tables.{TableView}
use Rattle.hm_edges.specs.States.{HasNodes}
use Rattle.hm_graph.specs.Layers.{HaveNodes}
use Rattle.hm_graph.proofs.Places.{IsLeftFrom}
use Rattle.hm_graph.proofs.layer.place_in.Given as goal

abbrev pub invariant-loop-place : goal.invariant-loop-place
invariant-loop-place l = (v : TableView) → HaveNodes v l.states → HasNodes v l.state.pending → IsLeftFrom v l.states l.state l.place
