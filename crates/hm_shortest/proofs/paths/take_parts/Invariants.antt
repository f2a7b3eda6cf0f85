use Rattle.hm_shortest.proofs.Walking.{PartsTaken}
use Rattle.hm_shortest.proofs.paths.take_parts.Given as goal

abbrev pub invariant-loop-part : goal.invariant-loop-part
invariant-loop-part l = PartsTaken l.graph l.parts l.part-index l.initial.way l.way
