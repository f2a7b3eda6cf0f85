-- An edge of the graph of spellings: the bytes that it writes, and the state that it leads to.
use Rattle.std.specs.Prelude.{ℕ, List, length}
use Rattle.hm_graph_laws.specs.States.{Where, Pending, State, state}

pub record Edge : Type 0 where
  pub bytes : List ℕ
  pub to : State

abbrev pub edge : List ℕ → Where → Pending → Edge
edge b at p = record { bytes = b; to = state at p }

abbrev pub edge_to : List ℕ → State → Edge
edge_to b s = record { bytes = b; to = s }

abbrev pub edge_length : Edge → ℕ
edge_length e = length e.bytes
