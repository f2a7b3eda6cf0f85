use Rattle.std.proofs.Common.{length, ◌-◌}
use Rattle.hm_lexer.proofs.EmptyTags.{IsPassed}
use Rattle.hm_lexer.proofs.ordinary.after_empty_tags.Given as goal

abbrev pub invariant-loop-bytes : goal.invariant-loop-bytes
invariant-loop-bytes l = IsPassed l.text l.at l.from

abbrev pub decreases-loop-bytes : goal.decreases-loop-bytes
decreases-loop-bytes l = length l.text - l.from
