use Rattle.hm_construction_laws.proofs.Weights.{step_within, over_within}
use Rattle.hm_construction_laws.proofs.laws.trees_grow_with_their_tokens.Goals as goal

pub returns-clause-steps : goal.returns-clause-steps
returns-clause-steps c = step_within

pub returns-clause-ends : goal.returns-clause-ends
returns-clause-ends c = over_within
