use Rattle.std.proofs.Common.{◌≡◌, ◌∷◌, ◌++◌, length, reverse, take}
use Rattle.std.specs.Fmt.{decimal}
use Rattle.hm_cert.proofs.hundreds.KeptDigits.of.Given as goal

abbrev pub invariant-loop-rest : goal.invariant-loop-rest
invariant-loop-rest l = record {
  put : take l.len l.text ++ reverse (decimal l.rest) ≡ 32 ∷ 48 ∷ 48 ∷ reverse (decimal l.hundreds);
  size : length l.text ≡ 16;
}

abbrev pub decreases-loop-rest : goal.decreases-loop-rest
decreases-loop-rest l = l.rest
