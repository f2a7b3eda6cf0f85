use Rattle.hm_order.proofs.InOrder.{ordered_is_as_large}
use Rattle.hm_order.proofs.laws.ordered_is_as_large.Goals as goal

pub returns : goal.returns
returns c = ordered_is_as_large
