use Rattle.hm_refs.specs.Nodes.{IsSpread, entries_of}
use Rattle.hm_refs.proofs.nodes.grow.Given as goal

abbrev pub invariant-loop-depth : goal.invariant-loop-depth
invariant-loop-depth l = IsSpread (entries_of l.names) l.depth 0 l.nodes.items l.places.items
