use Rattle.std.proofs.Common.{subst}
use Rattle.hm_graph.specs.Runs.{IsAt}
use Rattle.hm_graph.proofs.Runs.{at_first}
use Rattle.hm_graph.proofs.graph.Graph.first_layer.Goals as goal

pub returns-clause-place : goal.returns-clause-place
returns-clause-place c = subst (λ g. IsAt g.runs 0 0 0) c.self.view_is (at_first c.self.inside.runs.items c.self.invariant.4)
