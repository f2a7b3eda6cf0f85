use Rattle.hm_check.proofs.Earned.{yes_is_earned}
use Rattle.hm_check.proofs.laws.yes_is_earned.Goals as goal

pub returns : goal.returns
returns c = yes_is_earned
