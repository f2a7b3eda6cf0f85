-- Steps with one hop for each state.
use Rattle.std.proofs.Common.{◌≡◌, ℕ, zero, suc, ◌<◌, true, [], ◌∷◌, get_or, length, refl, arith}
use Rattle.hm_graph.specs.Steps.{Step, is_forced}

pub forced_one : (step : Step) (place : ℕ) → is_forced step ≡ true → place < length step → length (get_or step place []) ≡ 1
forced_one [] place h inside = absurd (omega arith)
forced_one ([] ∷ step) place h inside = absurd (cc)
forced_one ((x ∷ y ∷ hops) ∷ step) place h inside = absurd (cc)
forced_one ((x ∷ []) ∷ step) zero h inside = refl
forced_one ((x ∷ []) ∷ step) (suc place) h inside = forced_one step place h (omega arith)
