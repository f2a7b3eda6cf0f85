use Rattle.hm_refs.proofs.Found as found
use Rattle.hm_refs.proofs.laws.none_is_longest.Goals as goal

pub returns : goal.returns
returns c = found.none_is_longest
