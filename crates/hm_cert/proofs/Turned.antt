-- Short rows that are reversed.
use Rattle.std.proofs.Common.{◌≡◌, ◌-◌, ◌<◌, ◌≤◌, ℕ, List, [], ◌∷◌, length, reverse, refl, arith}
use Rattle.std.specs.List.{swap}

-- of two or three
pub few_turned : (row : List ℕ) → 1 < length row → length row ≤ 3 → swap row 0 (length row - 1) ≡ reverse row
few_turned [] some few = absurd (omega (arith, some))
few_turned (a ∷ []) some few = absurd (omega (arith, some))
few_turned (a ∷ b ∷ []) some few = refl
few_turned (a ∷ b ∷ c ∷ []) some few = refl
few_turned (a ∷ b ∷ c ∷ d ∷ row) some few = absurd (omega (arith, few))

pub one_turned : (row : List ℕ) → length row ≤ 1 → row ≡ reverse row
one_turned [] few = refl
one_turned (a ∷ []) few = refl
one_turned (a ∷ b ∷ row) few = absurd (omega (arith, few))
