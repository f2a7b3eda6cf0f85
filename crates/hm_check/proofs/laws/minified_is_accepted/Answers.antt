use Rattle.hm_check.proofs.Shown.{minified_is_accepted}
use Rattle.hm_check.proofs.laws.minified_is_accepted.Goals as goal

pub returns : goal.returns
returns c = minified_is_accepted
