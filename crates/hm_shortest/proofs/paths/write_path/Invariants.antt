use Rattle.hm_shortest.proofs.Walking.{EventsTaken}
use Rattle.hm_shortest.proofs.paths.write_path.Given as goal

abbrev pub invariant-loop-i : goal.invariant-loop-i
invariant-loop-i l = EventsTaken l.graph l.initial.way l.i l.way
