use Rattle.hm_graph.proofs.laws.keeping_agrees.Goals as goal
use Rattle.hm_graph.proofs.Keeping.{keeps_feasible, feasible_keeps}

pub returns : goal.returns
returns c = λ edges bytes units states steps last rows h. (keeps_feasible edges bytes units states steps last rows h, feasible_keeps edges bytes units states steps last rows h)
