use Rattle.std.proofs.Common.{take}
use Rattle.hm_refs.specs.Nodes.{entries_of}
use Rattle.hm_refs.specs.Firsts.{IsIndex}
use Rattle.hm_refs.proofs.firsts.firsts_of.Given as goal

abbrev pub invariant-loop-number : goal.invariant-loop-number
invariant-loop-number l = IsIndex (take l.number (entries_of l.names)) l.firsts
