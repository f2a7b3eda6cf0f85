use Rattle.std.proofs.Common.{◌-◌}
use Rattle.hm_shortest.proofs.Ends.{IsTurning}
use Rattle.hm_shortest.proofs.turned.turn.Given as goal

abbrev pub invariant-loop-done : goal.invariant-loop-done
invariant-loop-done l = IsTurning l.initial.bytes l.bytes l.done

abbrev pub decreases-loop-done : goal.decreases-loop-done
decreases-loop-done l = l.len - l.done
