use Rattle.hm_graph.proofs.Counts.{RunsCounted}
use Rattle.hm_graph.proofs.graph.Graph.count_kept.Given as goal

abbrev pub invariant-loop-run : goal.invariant-loop-run
invariant-loop-run l = RunsCounted l.self-inside.format l.self-inside.steps.items l.run-items l.run-index l.count
