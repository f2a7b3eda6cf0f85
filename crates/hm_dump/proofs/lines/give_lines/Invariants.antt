use Rattle.std.proofs.Common.{◌≡◌, ◌≤◌, [], length, take}
use Rattle.hm_base.specs.Walks.{path_after}
use Rattle.hm_dump.specs.Dump.{lines_from}
use Rattle.hm_dump.specs.Given.{Gives}
use Rattle.hm_dump.proofs.lines.give_lines.Given as goal

abbrev pub invariant-loop-i : goal.invariant-loop-i
invariant-loop-i g l = (l.depth ≡ length (path_after [] (take l.i l.tree))) × (l.depth ≤ l.i) × Gives (g.O.Sink.contents l.initial.out) (g.O.Sink.contents l.out) (g.O.Sink.faults l.initial.out) (g.O.Sink.faults l.out) l.initial.buffer l.buffer (lines_from [] (take l.i l.tree))
