-- Steps over which no state changes its place.
use Rattle.std.specs.Prelude.{◌≡◌, ℕ, ◌<◌, List, [], ◌∷◌, length, slice_index_or}
use Rattle.hm_graph.specs.Steps.{Step}
use Rattle.hm_graph.specs.declared.hops.Hop.{Hop}

-- one hop, of this length, to this place
abbrev pub Stays : ℕ → ℕ → List Hop → Type 0
Stays len place [] = ⊥
Stays len place (h ∷ []) = (h.len ≡ len) × (h.to ≡ place)
Stays len place (h ∷ g ∷ hops) = ⊥

-- each state has one hop, of this length, to its own place
abbrev pub AreStill : ℕ → Step → Type 0
AreStill len step = (place : ℕ) → place < length step → Stays len place (slice_index_or step place [])

-- there are states, and each has one hop, of this length, to its own place
abbrev pub IsStill : ℕ → Step → Type 0
IsStill len step = (0 < length step) × AreStill len step
