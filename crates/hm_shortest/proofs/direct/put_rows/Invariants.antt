use Rattle.std.proofs.Common.{◌≡◌, ◌++◌, map, take}
use Rattle.hm_cert.specs.Certificate.{row_lines}
use Rattle.hm_shortest.specs.Stretches.{placed}
use Rattle.hm_shortest.proofs.direct.put_rows.Given as goal

abbrev pub invariant-loop-k : goal.invariant-loop-k
invariant-loop-k l = l.text.items ≡ l.initial.text.items ++ row_lines (map (placed l.top) (take l.k l.rows))
