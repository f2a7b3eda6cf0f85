use Rattle.hm_edges.specs.States.{state_of}
use Rattle.hm_optimality_laws.specs.Dominated.{forgotten, may_forget}
use Rattle.hm_graph_laws.specs.States.{same_state}
use Rattle.hm_graph.proofs.KeptEdges.{first_holds, second_fails, third_tells}
use Rattle.hm_graph.proofs.dominated.can_replace.Goals as goal

pub returns-then-is_same : goal.returns-then-is_same
returns-then-is_same c = λ v own has. first_holds c.is_same.result (same_state (state_of v c.args.one.now) (state_of v c.args.other.now)) (may_forget (state_of v c.args.other.now)) (same_state (state_of v c.args.one.now) (forgotten (state_of v c.args.other.now))) (c.is_same.ensures v own has) c.if-is_same.true

pub returns-then-may_forget : goal.returns-then-may_forget
returns-then-may_forget c = λ v own has.
    third_tells c.is_same.result c.may_forget.result c.is_same-then-may_forget.result (same_state (state_of v c.args.one.now) (state_of v c.args.other.now)) (may_forget (state_of v c.args.other.now)) (same_state (state_of v c.args.one.now) (forgotten (state_of v c.args.other.now))) (c.is_same.ensures v own has) c.if-is_same.false (c.may_forget.ensures v) c.if-may_forget.true (c.is_same-then-may_forget.ensures v own tt)

pub returns-else-may_forget : goal.returns-else-may_forget
returns-else-may_forget c = λ v own has. second_fails c.is_same.result c.may_forget.result (same_state (state_of v c.args.one.now) (state_of v c.args.other.now)) (may_forget (state_of v c.args.other.now)) (same_state (state_of v c.args.one.now) (forgotten (state_of v c.args.other.now))) (c.is_same.ensures v own has) c.if-is_same.false (c.may_forget.ensures v) c.if-may_forget.false
