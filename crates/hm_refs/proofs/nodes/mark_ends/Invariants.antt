use Rattle.hm_refs.specs.Nodes.{IsPut, entries_of}
use Rattle.hm_refs.proofs.nodes.mark_ends.Given as goal

abbrev pub invariant-loop-number : goal.invariant-loop-number
invariant-loop-number l = IsPut (entries_of l.names) l.number l.nodes l.places
