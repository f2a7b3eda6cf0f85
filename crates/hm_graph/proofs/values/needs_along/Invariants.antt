use Rattle.std.proofs.Common.{◌≡◌, chars, length}
use denote.Text.{Utf8}
use denote.Shadow.{shadow}
use Rattle.hm_edges.specs.Units as units
use Rattle.hm_graph.specs.Values.{needs_at}
use Rattle.hm_graph.proofs.values.needs_along.Given as goal

abbrev pub invariant-loop-rest : goal.invariant-loop-rest
invariant-loop-rest l = shadow (Utf8 l.rest) × (needs_at l.table.entries l.needs l.previous (chars l.rest) ≡ units.needs_of l.table.entries (chars l.value))

abbrev pub decreases-loop-rest : goal.decreases-loop-rest
decreases-loop-rest l = length l.rest
