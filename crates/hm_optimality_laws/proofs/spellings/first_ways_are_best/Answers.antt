use Rattle.hm_optimality_laws.proofs.Best.{first_ways_are_best}
use Rattle.hm_optimality_laws.proofs.spellings.first_ways_are_best.Goals as goal

pub returns : goal.returns
returns c = first_ways_are_best
