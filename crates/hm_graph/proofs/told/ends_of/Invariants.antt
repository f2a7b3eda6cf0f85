use Rattle.std.proofs.Common.{take}
use Rattle.hm_graph_laws.specs.Forms.{leaves_open}
use Rattle.hm_graph.specs.Interned.{AreOf}
use Rattle.hm_graph.proofs.told.ends_of.Given as goal

abbrev pub invariant-loop-place : goal.invariant-loop-place
invariant-loop-place l = AreOf leaves_open (take l.place l.table.entries) l.ends
