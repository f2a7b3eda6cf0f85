use Rattle.std.proofs.Common.{◌≡◌, map, take}
use Rattle.hm_cert.specs.Layout.{told}
use Rattle.hm_shortest.specs.Stretches.{placed}
use Rattle.hm_shortest.proofs.stretches.place_row.Given as goal

abbrev pub invariant-loop-k : goal.invariant-loop-k
invariant-loop-k l = map told l.into.items ≡ placed l.top (map told (take l.k l.row))
