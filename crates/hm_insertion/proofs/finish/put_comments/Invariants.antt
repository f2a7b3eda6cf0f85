use Rattle.std.proofs.Common.{◌≡◌, ◌++◌, map, take}
use Rattle.hm_base.specs.Walks.{comment}
use Rattle.hm_insertion.proofs.finish.put_comments.Given as goal

abbrev pub invariant-loop-word : goal.invariant-loop-word
invariant-loop-word l = l.maker ≡ l.initial.maker ++ map comment (take l.word-index l.comments)
