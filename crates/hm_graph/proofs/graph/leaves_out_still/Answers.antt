use Rattle.std.proofs.Common.{ap, ◌∙◌}
use Rattle.hm_graph.specs.Steps.{leaves_out}
use Rattle.hm_graph.proofs.StillSteps.{still_forced}
use Rattle.hm_graph.proofs.graph.leaves_out_still.Goals as goal

pub returns-in-Sparse : goal.returns-in-Sparse
returns-in-Sparse c = λ yes step len still width. ap (λ format. leaves_out format step) c.in-Sparse.is ∙ still_forced step len still.1
