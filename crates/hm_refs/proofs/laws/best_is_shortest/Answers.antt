use Rattle.hm_refs.proofs.Shortest.{shortest}
use Rattle.hm_refs.proofs.laws.best_is_shortest.Goals as goal

pub returns : goal.returns
returns c = shortest
