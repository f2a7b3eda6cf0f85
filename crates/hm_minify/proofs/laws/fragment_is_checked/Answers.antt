use Rattle.hm_minify.proofs.Afterwards as law
use Rattle.hm_minify.proofs.laws.fragment_is_checked.Goals as goal

pub returns : goal.returns
returns c = law.fragment_is_checked
