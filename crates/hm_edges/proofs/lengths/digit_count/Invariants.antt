use Rattle.hm_edges.proofs.DigitCounts.{Counting}
use Rattle.hm_edges.proofs.lengths.digit_count.Given as goal

abbrev pub invariant-loop-left : goal.invariant-loop-left
invariant-loop-left l = Counting l.base l.number l.count l.left

abbrev pub decreases-loop-left : goal.decreases-loop-left
decreases-loop-left l = l.left
