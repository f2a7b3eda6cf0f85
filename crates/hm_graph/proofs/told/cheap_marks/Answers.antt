use Rattle.hm_graph.specs.Interned.{cheapens}
use Rattle.hm_graph.proofs.ToldMarks.{marked_none}
use Rattle.hm_graph.proofs.told.cheap_marks.Goals as goal

pub loop-place-init : goal.loop-place-init
loop-place-init c = marked_none cheapens c.args.table.now.entries
