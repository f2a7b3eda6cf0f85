use Rattle.hm_shortest.proofs.Directly.{AlikePassed}
use Rattle.hm_shortest.proofs.direct.DirectWay.go_over_each.Given as goal

abbrev pub invariant-loop-byte : goal.invariant-loop-byte
invariant-loop-byte l = AlikePassed l.table.entries l.step l.bytes l.byte-index l.initial.self l.self
