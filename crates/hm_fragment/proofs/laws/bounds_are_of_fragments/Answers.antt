use Rattle.hm_fragment.proofs.Fragments.{bounds_are_of_fragments}
use Rattle.hm_fragment.proofs.laws.bounds_are_of_fragments.Goals as goal

pub returns : goal.returns
returns c = bounds_are_of_fragments
