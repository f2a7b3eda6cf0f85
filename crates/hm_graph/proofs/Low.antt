-- No edge of a graph writes too much.
use Rattle.std.proofs.Common.{ℕ, zero, suc, List, [], ◌∷◌, get_or}
use Rattle.hm_graph.specs.Graphs.{AreLow, AreLowHops, IsLowStep}
use Rattle.hm_graph.specs.Steps.{Step}

pub low_step : (steps : List Step) (k : ℕ) → AreLow steps → IsLowStep (get_or steps k [])
low_step [] k low = tt
low_step (step ∷ steps) zero low = low.0
low_step (step ∷ steps) (suc k) low = low_step steps k low.1

pub low_hops : (step : Step) (place : ℕ) → IsLowStep step → AreLowHops (get_or step place [])
low_hops [] place low = tt
low_hops (hops ∷ step) zero low = low.0
low_hops (hops ∷ step) (suc place) low = low_hops step place low.1
