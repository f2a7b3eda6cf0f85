use Rattle.std.proofs.Common.{◌≡◌, drop}
use Rattle.hm_refs.specs.Numbers.{look_up, replaced}
use Rattle.hm_refs.proofs.numbers.replacement.Given as goal

abbrev pub invariant-loop-number : goal.invariant-loop-number
invariant-loop-number l = look_up l.n (drop l.number-index l.number-items) ≡ look_up l.n replaced
