use Rattle.hm_refs.specs.Nodes.{IsSpread, entries_of}
use Rattle.hm_refs.proofs.nodes.grow_deeper.Given as goal

abbrev pub invariant-loop-number : goal.invariant-loop-number
invariant-loop-number l = IsSpread (entries_of l.names) l.depth l.number l.nodes.items l.places
