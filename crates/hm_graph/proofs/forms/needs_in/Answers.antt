use Rattle.std.proofs.Common.{Some, subst}
use Rattle.hm_edges.proofs.Standing.{of_attribute_name}
use Rattle.hm_edges.specs.Units.{StandsFor}
use Rattle.hm_graph.specs.Forms.{AreNeeds}
use Rattle.hm_graph.proofs.forms.needs_in.Goals as goal

pub returns-in-AttributeName : goal.returns-in-AttributeName
returns-in-AttributeName c = λ t u stands.
    of_attribute_name t c.in-AttributeName.len c.in-AttributeName.needs (λ u. AreNeeds t u (Some c.in-AttributeName.needs)) (λ n v is. is) u (subst (λ unit. StandsFor t unit u) c.in-AttributeName.is stands)
