use Rattle.std.proofs.Common.{take, flat_map}
use Rattle.hm_dump.specs.Dump.{attribute_text}
use Rattle.hm_dump.specs.Given.{Gives}
use Rattle.hm_tree.specs.Views.{attributes_shown}
use Rattle.hm_dump.proofs.lines.give_attributes.Given as goal

abbrev pub invariant-loop-i : goal.invariant-loop-i
invariant-loop-i g l = Gives (g.O.Sink.contents l.initial.out) (g.O.Sink.contents l.out) (g.O.Sink.faults l.initial.out) (g.O.Sink.faults l.out) l.initial.buffer l.buffer (flat_map attribute_text (take l.i (attributes_shown l.attrs)))
