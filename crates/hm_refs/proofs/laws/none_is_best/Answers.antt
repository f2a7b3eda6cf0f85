use Rattle.hm_refs.proofs.NumberLaws as numbers
use Rattle.hm_refs.proofs.laws.none_is_best.Goals as goal

pub returns : goal.returns
returns c = numbers.none_is_best
