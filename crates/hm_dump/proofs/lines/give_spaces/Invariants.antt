use Rattle.std.proofs.Common.{◌-◌, ◌*◌, ◌≤◌, replicate}
use Rattle.hm_dump.specs.Given.{Gives}
use Rattle.hm_dump.proofs.lines.give_spaces.Given as goal

abbrev pub invariant-loop-left : goal.invariant-loop-left
invariant-loop-left g l = (l.left ≤ 2 * l.depth) × Gives (g.O.Sink.contents l.initial.out) (g.O.Sink.contents l.out) (g.O.Sink.faults l.initial.out) (g.O.Sink.faults l.out) l.initial.buffer l.buffer (replicate (2 * l.depth - l.left) 32)

abbrev pub decreases-loop-left : goal.decreases-loop-left
decreases-loop-left g l = l.left
