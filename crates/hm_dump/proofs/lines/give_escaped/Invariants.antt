use Rattle.std.proofs.Common.{◌-◌, ◌≤◌, length, take, flat_map}
use Rattle.hm_dump.specs.Dump.{quoted_byte}
use Rattle.hm_dump.specs.Given.{Gives}
use Rattle.hm_dump.proofs.lines.give_escaped.Given as goal

abbrev pub invariant-loop-from : goal.invariant-loop-from
invariant-loop-from g l = (l.from ≤ length l.bytes) × Gives (g.O.Sink.contents l.initial.out) (g.O.Sink.contents l.out) (g.O.Sink.faults l.initial.out) (g.O.Sink.faults l.out) l.initial.buffer l.buffer (flat_map quoted_byte (take l.from l.bytes))

abbrev pub decreases-loop-from : goal.decreases-loop-from
decreases-loop-from g l = length l.bytes - l.from
