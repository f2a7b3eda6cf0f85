use Rattle.hm_options.proofs.Collapsed.{collapsed_settled}
use Rattle.hm_options.proofs.space_laws.collapsed_is_settled.Goals as goal

pub returns : goal.returns
returns c = collapsed_settled
