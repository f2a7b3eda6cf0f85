use Rattle.std.proofs.Common.{◌≡◌, drop}
use Rattle.hm_refs.specs.Json.{least_crowded, lesser}
use Rattle.hm_refs.specs.Nodes.{entries_of}
use Rattle.hm_refs.proofs.firsts.least_crowded.Given as goal

abbrev pub invariant-loop-name : goal.invariant-loop-name
invariant-loop-name l = lesser l.least (least_crowded (entries_of l.names) (drop l.name-index (entries_of l.names))) ≡ least_crowded (entries_of l.names) (entries_of l.names)
