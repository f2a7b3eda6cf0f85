-- Lengths of hops over which no state changes its place.
use Rattle.std.proofs.Common.{ℕ, ◌<◌, ◌^◌, List, [], ◌∷◌, Option, Some, None, subst, arith}
use Rattle.std.specs.Prelude.{IfSome}
use Rattle.hm_graph.specs.Graphs.{AreLowHops, IsLowStep}
use Rattle.hm_graph.specs.Steps.{Step}
use Rattle.hm_graph.specs.Still.{IsStill, Stays}
use Rattle.hm_graph.specs.declared.hops.Hop.{Hop}

stays_low : (hops : List Hop) (len place : ℕ) → AreLowHops hops → Stays len place hops → len < 2 ^ 33
stays_low [] len place low h = absurd h
stays_low (x ∷ []) len place low h = subst (λ n. n < 2 ^ 33) h.0 low.0
stays_low (x ∷ y ∷ hops) len place low h = absurd h

is_low : (step : Step) (len : ℕ) → IsLowStep step → IsStill len step → len < 2 ^ 33
is_low [] len low h = absurd (omega (arith, h.0))
is_low (hops ∷ step) len low h = stays_low hops len 0 low.0 (h.1 0 (omega arith))

pub still_low : (still : Option ℕ) (step : Step) → IfSome still (λ len. IsStill len step) → IsLowStep step → IfSome still (λ len. len < 2 ^ 33)
still_low None step h low = tt
still_low (Some len) step h low = is_low step len low h
