use Rattle.hm_shortest.proofs.Found.{RowsKept}
use Rattle.hm_shortest.proofs.stretches.keep_rows.Given as goal

abbrev pub invariant-loop-k : goal.invariant-loop-k
invariant-loop-k l = RowsKept l.stretch l.found l.top l.initial.rows l.k l.rows
