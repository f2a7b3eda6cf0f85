use Rattle.hm_graph.specs.Interned.{cheapens}
use Rattle.hm_graph.proofs.ToldMarks.{MarkedTo}
use Rattle.hm_graph.proofs.told.cheap_marks.Given as goal

abbrev pub invariant-loop-place : goal.invariant-loop-place
invariant-loop-place l = MarkedTo cheapens l.table.entries l.place l.marks
