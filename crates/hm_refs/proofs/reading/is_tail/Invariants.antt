use Rattle.std.proofs.Common.{◌≡◌, drop}
use Rattle.hm_refs.specs.Names.{is_tail}
use Rattle.hm_refs.proofs.reading.is_tail.Given as goal

abbrev pub invariant-loop-i : goal.invariant-loop-i
invariant-loop-i l = is_tail (drop l.i l.text) ≡ is_tail l.text
