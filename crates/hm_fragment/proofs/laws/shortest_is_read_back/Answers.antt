use Rattle.hm_fragment.proofs.Fragments.{shortest_is_read_back, rewritten_is_read_back}
use Rattle.hm_fragment.proofs.laws.shortest_is_read_back.Goals as goal

pub returns-clause-trees : goal.returns-clause-trees
returns-clause-trees c = shortest_is_read_back

pub returns-clause-fragments : goal.returns-clause-fragments
returns-clause-fragments c = rewritten_is_read_back
