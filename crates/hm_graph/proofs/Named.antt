-- Names in the pieces of steps.
use Rattle.std.proofs.Common.{ℕ, zero, suc, List, [], ◌∷◌, get_or}
use Rattle.hm_graph.specs.Graphs.{AreNamed, AreNamedHops, IsNamedStep}
use Rattle.hm_refs.specs.Names.{Entry}
use Rattle.hm_graph.specs.Steps.{Step}

pub named_hops : (t : List Entry) (step : Step) (place : ℕ) → IsNamedStep t step → AreNamedHops t (get_or step place [])
named_hops t [] place h = tt
named_hops t (hops ∷ step) zero h = h.0
named_hops t (hops ∷ step) (suc place) h = named_hops t step place h.1

pub named_step : (t : List Entry) (steps : List Step) (k : ℕ) → AreNamed t steps → IsNamedStep t (get_or steps k [])
named_step t [] k h = tt
named_step t (step ∷ steps) zero h = h.0
named_step t (step ∷ steps) (suc k) h = named_step t steps k h.1
