use Rattle.hm_check.proofs.Shown.{yes_shows}
use Rattle.hm_check.proofs.laws.yes_shows.Goals as goal

pub returns : goal.returns
returns c = yes_shows
