use Rattle.std.proofs.Common.{Bool}
use Rattle.std.specs.List.{All}
use Rattle.hm_graph.specs.Interned.{IsRow, InternedView}
use Rattle.hm_graph.proofs.plain.no_rows.Given as goal

abbrev pub invariant-loop-place : goal.invariant-loop-place
invariant-loop-place l = (m : InternedView) (more : Bool) → All (IsRow m more) l.rows.items
