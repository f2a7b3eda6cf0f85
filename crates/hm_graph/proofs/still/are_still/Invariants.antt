use Rattle.std.proofs.Common.{ℕ, ◌<◌, [], get_or}
use Rattle.hm_graph.specs.Still.{Stays}
use Rattle.hm_graph.proofs.still.are_still.Given as goal

abbrev pub invariant-loop-place : goal.invariant-loop-place
invariant-loop-place l = (p : ℕ) → p < l.place → Stays l.len p (get_or l.step p [])
