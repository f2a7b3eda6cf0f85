use Rattle.std.proofs.Common.{take, flat_map}
use Rattle.json.specs.Print.{escape_byte}
use Rattle.hm_dump.specs.Given.{Gives}
use Rattle.hm_json_tree.proofs.write.give_escaped.Given as goal

abbrev pub invariant-loop-byte : goal.invariant-loop-byte
invariant-loop-byte g l = Gives (g.O.Sink.contents l.initial.out) (g.O.Sink.contents l.out) (g.O.Sink.faults l.initial.out) (g.O.Sink.faults l.out) l.initial.buffer l.buffer (flat_map escape_byte (take l.byte-index l.bytes))
