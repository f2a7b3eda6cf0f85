use Rattle.hm_options.proofs.InOrder.{rewrite_settled}
use Rattle.hm_options.proofs.laws.rewritten_is_settled.Goals as goal

pub returns : goal.returns
returns c = rewrite_settled
