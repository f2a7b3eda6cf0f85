use Rattle.hm_graph_laws.proofs.prices.same_states_are_equal.Goals as goal
use Rattle.std.proofs.Common.{subst, ◌≡◌, true}
use Rattle.hm_graph_laws.specs.States.{same_state}
use Rattle.hm_graph_laws.proofs.States.{same_is, same_self}

pub returns : goal.returns
returns c = λ s t. (same_is s t, λ e. subst (λ x. same_state s x ≡ true) e (same_self s))
