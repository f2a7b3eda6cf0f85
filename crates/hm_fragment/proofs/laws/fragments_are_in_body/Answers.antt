use Rattle.hm_fragment.proofs.Fragments.{fragments_are_in_body}
use Rattle.hm_fragment.proofs.laws.fragments_are_in_body.Goals as goal

pub returns : goal.returns
returns c = fragments_are_in_body
