-- Steps that copy a byte.
use Rattle.std.specs.Prelude.{◌≡◌, ◌+◌, ◌<◌, ◌≤◌, ℕ, true, [], Option, Some, None, slice_index_or}
use Rattle.hm_graph.specs.Copied.{Copies}
use Rattle.hm_graph.specs.Graphs.{GraphView}
use Rattle.hm_graph.specs.Steps.{Step, is_forced}

-- there is nothing to choose, and the hop from the place copies the unit's own bytes and leads to the same place
abbrev pub IsCopied : Step → Option ℕ → Type 0
IsCopied step None = ⊥
IsCopied step (Some place) = (is_forced step ≡ true) × Copies place (slice_index_or step place [])

-- the n steps after layer k are such steps
abbrev pub AreCopied : GraphView → ℕ → ℕ → Option ℕ → Type 0
AreCopied g k n place = (j : ℕ) → k ≤ j → j < k + n → IsCopied (slice_index_or g.steps j []) place
