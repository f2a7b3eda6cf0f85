use Rattle.hm_optimality_laws.proofs.Best.{spellings_have_ways}
use Rattle.hm_optimality_laws.proofs.spellings.spellings_have_ways.Goals as goal

pub returns : goal.returns
returns c = spellings_have_ways
