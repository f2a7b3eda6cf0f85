use Rattle.std.proofs.Common.{◌≡◌, drop, map}
use Rattle.hm_graph.specs.Steps.{is_forced}
use Rattle.hm_graph.proofs.step.are_forced.Given as goal

abbrev pub invariant-loop-hops : goal.invariant-loop-hops
invariant-loop-hops l = is_forced (map (λ hops. hops.items) (drop l.hops-index l.lists)) ≡ is_forced (map (λ hops. hops.items) l.lists)
