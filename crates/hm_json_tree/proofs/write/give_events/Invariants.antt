use Rattle.std.proofs.Common.{take}
use Rattle.hm_dump.specs.Given.{Gives}
use Rattle.hm_json_tree.specs.Written.{events_text}
use Rattle.hm_json_tree.proofs.write.give_events.Given as goal

abbrev pub invariant-loop-i : goal.invariant-loop-i
invariant-loop-i g l = Gives (g.O.Sink.contents l.initial.out) (g.O.Sink.contents l.out) (g.O.Sink.faults l.initial.out) (g.O.Sink.faults l.out) l.initial.buffer l.buffer (events_text (take l.i l.tree))
