use Rattle.hm_check.proofs.Shown.{spellings_are_accepted}
use Rattle.hm_check.proofs.laws.spellings_are_accepted.Goals as goal

pub returns : goal.returns
returns c = spellings_are_accepted
