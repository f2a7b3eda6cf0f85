use Rattle.std.proofs.Common.{take}
use Rattle.hm_order.specs.Weights.{AreHeavy, weight}
use Rattle.hm_order.proofs.scan.is_heavy.Given as goal

abbrev pub invariant-loop-id : goal.invariant-loop-id
invariant-loop-id l = AreHeavy (weight l.fn.low) l.table.entries (take l.id-index l.id-items)
