use Rattle.hm_refs.proofs.NumberLaws as numbers
use Rattle.hm_refs.proofs.laws.best_is_least.Goals as goal

pub returns : goal.returns
returns c = numbers.best_is_least
