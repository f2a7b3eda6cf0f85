use Rattle.hm_check.proofs.Following.{AlikePassed}
use Rattle.hm_check.proofs.followed.go_over_each.Given as goal

abbrev pub invariant-loop-byte : goal.invariant-loop-byte
invariant-loop-byte l = AlikePassed l.table.entries l.step l.bytes l.byte-index l.initial.way l.way
