use Rattle.hm_refs.proofs.Found as found
use Rattle.hm_refs.proofs.laws.longest_is_longest.Goals as goal

pub returns : goal.returns
returns c = found.longest_is_longest
