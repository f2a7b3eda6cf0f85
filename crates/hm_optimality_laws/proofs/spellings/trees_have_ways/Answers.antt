use Rattle.hm_optimality_laws.proofs.Best.{trees_have_spellings}
use Rattle.hm_optimality_laws.proofs.Direct.{trees_have_ways}
use Rattle.hm_optimality_laws.proofs.spellings.trees_have_ways.Goals as goal

pub returns-clause-ways : goal.returns-clause-ways
returns-clause-ways c = trees_have_ways

pub returns-clause-spellings : goal.returns-clause-spellings
returns-clause-spellings c = trees_have_spellings
