use Rattle.std.proofs.Common.{length}
use Rattle.hm_json_tree.specs.Tokens.{Passed}
use Rattle.hm_json_tree.proofs.streamed.pass_events.Given as goal

abbrev pub invariant-loop-alloc : goal.invariant-loop-alloc
invariant-loop-alloc l = Passed l.initial.tokens l.opened l.depth l.tokens

abbrev pub decreases-loop-alloc : goal.decreases-loop-alloc
decreases-loop-alloc l = length l.tokens
