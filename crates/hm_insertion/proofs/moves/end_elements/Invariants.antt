use Rattle.std.proofs.Common.{[]}
use Rattle.hm_base.specs.Walks.{path_after}
use Rattle.hm_insertion.proofs.Ends.{EndsSoFar}
use Rattle.hm_insertion.proofs.moves.end_elements.Given as goal

abbrev pub invariant-loop : goal.invariant-loop
invariant-loop l = EndsSoFar l.initial.maker (path_after [] l.initial.maker) l.counter l.maker
