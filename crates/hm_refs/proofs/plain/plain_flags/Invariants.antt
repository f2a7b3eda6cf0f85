use Rattle.std.proofs.Common.{take}
use Rattle.hm_refs.specs.Nodes.{entries_of}
use Rattle.hm_refs.specs.Flags.{IsFlagged}
use Rattle.hm_refs.proofs.plain.plain_flags.Given as goal

abbrev pub invariant-loop-name : goal.invariant-loop-name
invariant-loop-name l = IsFlagged (take l.name-index (entries_of l.names)) l.flags
