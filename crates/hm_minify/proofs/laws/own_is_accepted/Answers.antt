use Rattle.hm_minify.proofs.Accepted as law
use Rattle.hm_minify.proofs.laws.own_is_accepted.Goals as goal

pub returns : goal.returns
returns c = law.own_is_accepted
