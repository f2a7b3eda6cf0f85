use Rattle.std.proofs.Common.{◌≡◌, ℕ}
use Rattle.hm_check.proofs.Within.{high_from}
use Rattle.hm_check.proofs.bounds.are_within.Given as goal

abbrev pub invariant-loop-i : goal.invariant-loop-i
invariant-loop-i l = (k : ℕ) → high_from k l.i l.len l.row l.next_row ≡ high_from k 0 l.len l.row l.next_row
