-- Ways (paths through the layered graph) over some units, from a state to a state.
use Rattle.std.specs.Prelude.{◌≡◌, ℕ, List, [], ◌∷◌, ◌++◌}
use Rattle.hm_refs.specs.Tables.{IsIn}
use Rattle.hm_graph_laws.specs.Edges.{Edge}
use Rattle.hm_graph_laws.specs.States.{State}
use Rattle.hm_graph_laws.specs.Units.{Unit}
use Rattle.hm_graph_laws.specs.Ways.{Edges}

-- a way over these units with the bytes that it writes
abbrev pub WayTo : Edges → List Unit → State → List ℕ → State → Type 0
WayTo es [] from b to = (b ≡ []) × (from ≡ to)
WayTo es (unit ∷ units) from b to = (e : Edge) × IsIn e (es unit from) × ((rest : List ℕ) × (b ≡ e.bytes ++ rest) × WayTo es units e.to rest to)
