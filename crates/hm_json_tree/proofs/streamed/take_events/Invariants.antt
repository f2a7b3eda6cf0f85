use Rattle.std.proofs.Common.{length}
use Rattle.hm_json_tree.specs.Progress.{IsAt}
use Rattle.hm_json_tree.specs.Tokens.{IsRead}
use Rattle.hm_json_tree.proofs.streamed.take_events.Given as goal

abbrev pub invariant-loop-alloc : goal.invariant-loop-alloc
invariant-loop-alloc l = IsAt l.reader × IsRead l.initial.tokens l.reader.maker l.reader.path l.tokens

abbrev pub decreases-loop-alloc : goal.decreases-loop-alloc
decreases-loop-alloc l = length l.tokens
