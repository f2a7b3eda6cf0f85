use Rattle.std.proofs.Common.{◌≡◌, chars, length}
use denote.Text.{Utf8}
use denote.Shadow.{shadow}
use Rattle.hm_edges.specs.Units.{need_for, needs_quotes}
use Rattle.hm_graph.specs.Values.{need_at}
use Rattle.hm_graph.proofs.values.other_along.Given as goal

abbrev pub invariant-loop-rest : goal.invariant-loop-rest
invariant-loop-rest l = shadow (Utf8 l.rest) × (need_at l.table.entries needs_quotes l.need l.previous (chars l.rest) ≡ need_for l.table.entries needs_quotes (chars l.value))

abbrev pub decreases-loop-rest : goal.decreases-loop-rest
decreases-loop-rest l = length l.rest
