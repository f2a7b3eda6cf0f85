use Rattle.std.proofs.Common.{take}
use Rattle.hm_tree.specs.Names.{HasNames}
use Rattle.hm_tree.specs.Pairs.{attributes_of}
use Rattle.hm_tree.proofs.names.table_of.Given as goal

abbrev pub invariant-loop-i : goal.invariant-loop-i
invariant-loop-i l = HasNames l.table (attributes_of l.text (take l.i l.pairs))
