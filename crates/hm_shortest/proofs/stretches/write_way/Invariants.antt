use Rattle.hm_shortest.proofs.Found.{WayWritten}
use Rattle.hm_shortest.proofs.stretches.write_way.Given as goal

abbrev pub invariant-loop-k : goal.invariant-loop-k
invariant-loop-k l = WayWritten l.table.entries l.stretch l.found l.initial.out.items l.k l.out.items l.place
