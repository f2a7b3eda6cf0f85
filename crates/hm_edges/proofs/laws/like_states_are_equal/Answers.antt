use Rattle.std.proofs.Common.{◌≡◌, true, subst}
use Rattle.hm_graph_laws.specs.States.{same_state}
use Rattle.hm_graph_laws.proofs.States.{same_self}
use Rattle.hm_edges.specs.States.{state_of}
use Rattle.hm_edges.proofs.LikeStates.{like_states}
use Rattle.hm_edges.proofs.laws.like_states_are_equal.Goals as goal

pub returns : goal.returns
returns c = λ v s t own has. (like_states v s t own has, λ e. subst (λ x. same_state (state_of v s) (state_of v x) ≡ true) e (same_self (state_of v s)))
