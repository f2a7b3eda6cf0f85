use Rattle.std.proofs.Common.{subst}
use Rattle.hm_graph.specs.Graphs.{IsGraph}
use Rattle.hm_graph.proofs.graph.every_graph.Goals as goal

pub returns-clause-graph : goal.returns-clause-graph
returns-clause-graph c = subst IsGraph c.graph.view_is c.graph.invariant.1
