use Rattle.std.proofs.Common.{◌≡◌, ◌≤◌, ◌+◌, ◌*◌, drop, length, map, reverse, take}
use Rattle.hm_cert.specs.Layout.{told}
use Rattle.hm_cert.specs.Hundreds.{ahead}
use Rattle.hm_cert.proofs.reversed.put_prices.Given as goal

abbrev pub invariant-loop-k : goal.invariant-loop-k
invariant-loop-k l = record {
  room : l.at + 16 * l.k ≤ length l.line;
  put : take l.at l.line ≡ reverse (ahead (map told (drop l.k l.row)));
}
