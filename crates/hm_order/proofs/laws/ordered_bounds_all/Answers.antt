use Rattle.hm_order.proofs.Shortest.{ordered_bounds_all}
use Rattle.hm_order.proofs.laws.ordered_bounds_all.Goals as goal

pub returns : goal.returns
returns c = ordered_bounds_all
