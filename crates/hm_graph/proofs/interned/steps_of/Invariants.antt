use Rattle.std.proofs.Common.{◌≡◌, ◌++◌, map}
use Rattle.std.specs.Vec.Iter.{into_iter_items}
use Rattle.hm_graph.proofs.interned.steps_of.Given as goal

abbrev pub invariant-loop-made : goal.invariant-loop-made
invariant-loop-made l = l.steps.items ++ map (λ x. x.step) (into_iter_items l.made-iterator) ≡ map (λ x. x.step) l.fn.all.items
