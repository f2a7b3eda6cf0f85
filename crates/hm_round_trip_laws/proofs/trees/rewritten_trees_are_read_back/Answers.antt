use Rattle.hm_round_trip_laws.proofs.ReadBack.{rewritten_is_read_back}
use Rattle.hm_round_trip_laws.proofs.trees.rewritten_trees_are_read_back.Goals as goal

pub returns : goal.returns
returns c = rewritten_is_read_back
