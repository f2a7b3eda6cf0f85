use Rattle.hm_shortest.proofs.Found.{IsFoundFrom}
use Rattle.hm_shortest.specs.Stretches.{steps_in}
use Rattle.hm_shortest.proofs.stretches.find_rows.Given as goal

abbrev pub invariant-loop-k : goal.invariant-loop-k
invariant-loop-k l = IsFoundFrom l.last (steps_in l.stretch) l.k l.found
