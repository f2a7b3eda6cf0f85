-- Steps over which no state changes its place, one after the other.
use Rattle.std.specs.Prelude.{◌≡◌, ℕ, zero, suc, ◌+◌, true, List, [], ◌∷◌, length}
use Rattle.hm_base.specs.declared.plain.Format.{Format}
use Rattle.hm_graph.specs.Steps.{Step, leaves_out}
use Rattle.hm_graph.specs.Still.{AreStill, IsStill}

-- Over each of the first `n` of these steps none of `width` states changes its place, and the layer before it is left
-- out, as one that isn't the first. The hops have `len` bytes together.
abbrev pub AreStillOver : Format → List Step → ℕ → ℕ → ℕ → Type 0
AreStillOver format steps zero width len = len ≡ 0
AreStillOver format [] (suc n) width len = ⊥
AreStillOver format (step ∷ steps) (suc n) width len =
    (own : ℕ) × (rest : ℕ) × (len ≡ own + rest) × (length step ≡ width) × (leaves_out format step ≡ true) × AreStill own step × AreStillOver format steps n width rest

-- layers of `width` states over which no state changes its place are left out, as ones that aren't the first
abbrev pub LeavesOutStill : Format → ℕ → Type 0
LeavesOutStill format width = (step : Step) (len : ℕ) → IsStill len step → length step ≡ width → leaves_out format step ≡ true
