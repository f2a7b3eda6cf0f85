use Rattle.std.proofs.Common.{◌≡◌, drop}
use Rattle.hm_refs.specs.Numbers.{look_back, replaced}
use Rattle.hm_refs.proofs.numbers.replaced_number.Given as goal

abbrev pub invariant-loop-number : goal.invariant-loop-number
invariant-loop-number l = look_back l.c (drop l.number-index l.number-items) ≡ look_back l.c replaced
