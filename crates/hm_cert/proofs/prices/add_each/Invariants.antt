use Rattle.std.proofs.Common.{◌≡◌, ◌+◌, drop, map, take}
use Rattle.std.specs.Option.{option_map}
use Rattle.hm_cert.specs.Layout.{told}
use Rattle.hm_cert.proofs.prices.add_each.Given as goal

abbrev pub invariant-loop-i : goal.invariant-loop-i
invariant-loop-i l = record {
  raised : map told (take l.i l.row) ≡ map (option_map (λ q. l.len + q)) (map told (take l.i l.initial.row));
  others : drop l.i l.row ≡ drop l.i l.initial.row;
}
